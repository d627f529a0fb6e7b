-- The selectors of a side that is read are ones that some text spells, and not too high; so are those of its service accounts.
use Rattle.std.proofs.Common.{◌≡◌, ℕ, List, [], ◌∷◌, ◌++◌, ◌≤◌, Bool, true, false, Option, Some, None, IfOk, refl, arith, lit<}
use Rattle.std.specs.Prelude.{codes, IfSome, option_map, option_to_list}
use Rattle.std.specs.List.{list_all}
use Rattle.serde_json.specs.Data.{Data}
use Rattle.fx_base.specs.Given.{is_given}
use Rattle.fx_selector.specs.Tree.{Tree, IsTree, AreTrees, IsKey, IsString, AreStrings, many, and_of, height, heights}
use Rattle.fx_selector.specs.Rewriting.{service_account_tree}
use Rattle.fx_selector.proofs.Literals.{literal_key}
use Rattle.fx_selector.proofs.Rewritten.{height-rewritten, namespace_selector, service_account_selector}
use Rattle.fx_selector.proofs.Sound.{one_of_selector}
use Rattle.fx_fields.specs.declared.rule_form.RulePlace.{RulePlace}
use Rattle.fx_fields.specs.declared.rule_form.RulePlace.TheVariants.{OfPolicy, OfNamespace, OfProfile}
use Rattle.fx_fields.specs.declared.side_selectors.Accounts.{Accounts}
use Rattle.fx_fields.specs.declared.side_selectors.SideSelectors.{SideSelectors}
use Rattle.fx_fields.specs.declared.texts.TextForm.TheVariants.{Name}
use Rattle.fx_fields.specs.Forms.{is_name, text}
use Rattle.fx_fields.specs.Paths.{member_path}
use Rattle.fx_fields.specs.Fields.{items, section}
use Rattle.fx_fields.specs.Selectors.{selector_at}
use Rattle.fx_fields.specs.SideSelectors.{accounts_in, accounts_at, of_names, own_namespace, namespace_part, earlier_parts, with_namespaces, asked_by, positive_selector, side_selectors}
use Rattle.fx_fields.proofs.Readings.{then-if, read-if, items-each, text-formed}
use Rattle.fx_fields.proofs.NameTexts.{names-strings}
use Rattle.fx_fields.proofs.SelectorTexts.{IsPart, selector_at-part}

-- ---- parts of a selector

-- A text's tree has at most 131 levels, rewriting adds one, and so does asking for several together.
abbrev IsPartTree : Tree → Type 0
IsPartTree t = IsTree t × (height t ≤ 132)

abbrev ArePartTrees : List Tree → Type 0
ArePartTrees ts = AreTrees (many ts) × (heights (many ts) ≤ 132)

abbrev IsPartOf : Option Tree → Type 0
IsPartOf part = IfSome part IsPartTree

-- a tree that some text spells, and that may be asked for together with another
abbrev pub IsSideTree : Tree → Type 0
IsSideTree t = IsTree t × (height t ≤ 139)

abbrev pub IsTreeOf : Option Tree → Type 0
IsTreeOf part = IfSome part IsSideTree

trees-append : (ts us : List Tree) → ArePartTrees ts → ArePartTrees us → ArePartTrees (ts ++ us)
trees-append [] us h g = g
trees-append (t ∷ ts) us h g =
    let rest = trees-append ts us (h.0.1, omega (arith, h.1)) g in
    ((h.0.0, rest.0), omega (arith, h.1, rest.1))

trees-option : (part : Option Tree) → IsPartOf part → ArePartTrees (option_to_list part)
trees-option None h = (tt, omega arith)
trees-option (Some t) h = ((h.0, tt), omega (arith, h.1))

and-tree : (ts : List Tree) → ArePartTrees ts → IsSideTree (and_of ts)
and-tree [] h = (tt, omega arith)
and-tree (t ∷ []) h = (h.0.0, omega (arith, h.1))
and-tree (t ∷ u ∷ us) h = ((h.0, omega arith), omega (arith, h.1))

part-tree : (part : Option Tree) → IsPart part → IsTreeOf part
part-tree None h = tt
part-tree (Some t) h = (h.0, omega (arith, h.1))

own_part-tree : (part : Option Tree) → IsPart part → IsPartOf part
own_part-tree None h = tt
own_part-tree (Some t) h = (h.0, omega (arith, h.1))

-- ---- service accounts

abbrev pub AreAccounts : Accounts → Type 0
AreAccounts a = AreStrings a.names × IsPart a.chosen

accounts_in-formed : (path : List ℕ) (d : Data) → IfOk (accounts_in path d) AreAccounts
unfolding accounts_in
accounts_in-formed path d =
    then-if AreAccounts (items (text Name) path (codes "names") d) _ (λ names names_read.
    then-if AreAccounts (selector_at path (codes "selector") d) _ (λ chosen chosen_read. (
      names-strings names (read-if Q (items (text Name) path (codes "names") d) names (items-each is_name (text Name) (text-formed Name) path (codes "names") d) names_read),
      read-if IsPart (selector_at path (codes "selector") d) chosen (selector_at-part path (codes "selector") d) chosen_read,
    )))
  where
    Q : List (List ℕ) → Type 0
    Q names = list_all is_name names ≡ true

pub accounts_at-formed : (path : List ℕ) (d : Data) → IfOk (accounts_at path d) AreAccounts
unfolding accounts_at
accounts_at-formed path d =
    then-if AreAccounts (section (member_path path (codes "serviceAccounts")) (codes "serviceAccounts") d) _ (λ accounts _.
    accounts_in-formed (member_path path (codes "serviceAccounts")) accounts)

account_key : IsKey (codes "projectcalico.org/serviceaccount")
account_key = literal_key (codes "projectcalico.org/serviceaccount") refl (lit< tt)

names-tree : (names : List (List ℕ)) → AreStrings names → IsPartOf (of_names names)
names-tree [] h = tt
names-tree (n ∷ ns) h = ((one_of_selector (codes "projectcalico.org/serviceaccount") (n ∷ ns) false account_key h).tree, omega arith)

chosen-tree : (part : Option Tree) → IsPart part → IsPartOf (option_map service_account_tree part)
chosen-tree None h = tt
chosen-tree (Some t) h =
    ((service_account_selector t h.0 (omega (arith, h.1))).tree, omega (arith, h.1, height-rewritten (codes "pcsa.") (codes "projectcalico.org/serviceaccount") t))

-- ---- namespaces

-- a policy's own namespace may stand in a selector
abbrev pub IsPlace : RulePlace → Type 0
IsPlace OfPolicy = Unit {0}
IsPlace (OfNamespace ns) = IsString ns
IsPlace OfProfile = Unit {0}

own-tree : (place : RulePlace) → IsPlace place → IsPartOf (own_namespace place)
own-tree OfPolicy h = tt
own-tree (OfNamespace ns) h = ((literal_key (codes "projectcalico.org/namespace") refl (lit< tt), h), omega arith)
own-tree OfProfile h = tt

namespace-tree : (place : RulePlace) → IsPlace place → (asked : Bool) (part : Option Tree) → IsPart part → IsPartOf (namespace_part place asked part)
namespace-tree place stands asked (Some t) h =
    ((namespace_selector t h.0 (omega (arith, h.1))).tree, omega (arith, h.1, height-rewritten (codes "pcns.") (codes "projectcalico.org/namespace") t))
namespace-tree place stands true None h = own-tree place stands
namespace-tree place stands false None h = tt

-- ---- all together

earlier-trees : (own : Option Tree) (accounts : Accounts) → IsPart own → AreAccounts accounts → ArePartTrees (earlier_parts own accounts)
earlier-trees own accounts o a =
    trees-append (option_to_list own) (option_to_list (of_names accounts.names) ++ option_to_list (option_map service_account_tree accounts.chosen)) (trees-option own (own_part-tree own o))
    (trees-append (option_to_list (of_names accounts.names)) (option_to_list (option_map service_account_tree accounts.chosen))
    (trees-option (of_names accounts.names) (names-tree accounts.names a.0))
    (trees-option (option_map service_account_tree accounts.chosen) (chosen-tree accounts.chosen a.1)))

asked-tree : (parts : List Tree) → ArePartTrees parts → IsTreeOf (asked_by parts)
asked-tree [] h = tt
asked-tree (t ∷ ts) h = and-tree (t ∷ ts) h

positive-tree : (place : RulePlace) (own : Option Tree) (accounts : Accounts) (namespaces : Option Tree) → IsPlace place → IsPart own → AreAccounts accounts → IsPart namespaces → IsTreeOf (positive_selector place own accounts namespaces)
positive-tree place own accounts namespaces stands o a n =
    let parts = earlier_parts own accounts in
    asked-tree (with_namespaces place namespaces parts)
    (trees-append parts (option_to_list (namespace_part place (is_given parts) namespaces)) (earlier-trees own accounts o a)
    (trees-option (namespace_part place (is_given parts) namespaces) (namespace-tree place stands (is_given parts) namespaces n)))

-- both selectors of a side
abbrev pub AreTreesOf : SideSelectors → Type 0
AreTreesOf s = IsTreeOf s.selector × IsTreeOf s.not_selector

pub side_selectors-trees : (place : RulePlace) → IsPlace place → (path : List ℕ) (d : Data) → IfOk (side_selectors place path d) AreTreesOf
unfolding side_selectors
side_selectors-trees place stands path d =
    then-if AreTreesOf (selector_at path (codes "selector") d) _ (λ own own_read.
    then-if AreTreesOf (selector_at path (codes "notSelector") d) _ (λ not_own not_own_read.
    then-if AreTreesOf (selector_at path (codes "namespaceSelector") d) _ (λ namespaces namespaces_read.
    then-if AreTreesOf (accounts_at path d) _ (λ accounts accounts_read. (
      positive-tree place own accounts namespaces stands
          (read-if IsPart (selector_at path (codes "selector") d) own (selector_at-part path (codes "selector") d) own_read)
          (read-if AreAccounts (accounts_at path d) accounts (accounts_at-formed path d) accounts_read)
          (read-if IsPart (selector_at path (codes "namespaceSelector") d) namespaces (selector_at-part path (codes "namespaceSelector") d) namespaces_read),
      part-tree not_own (read-if IsPart (selector_at path (codes "notSelector") d) not_own (selector_at-part path (codes "notSelector") d) not_own_read),
    )))))
