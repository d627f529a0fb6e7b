-- Each side that is read may be lowered: its selectors leave a level to spare, and no port is asked for by the name of slices' ports.
use Rattle.std.proofs.Common.{◌≡◌, ℕ, List, [], ◌∷◌, ◌++◌, ◌≤◌, Bool, true, false, not, ◌&&◌, Option, Some, None, IfOk, refl, subst, arith}
use Rattle.std.specs.Prelude.{codes, IfSome, option_map, option_to_list}
use Rattle.std.specs.List.{list_all}
use Rattle.std.specs.Str.{bytes_eq}
use Rattle.std.proofs.lemmas.Bool.{le-leb, false≢true}
use Rattle.serde_json.specs.Data.{Data, null, boolean, number, string, array, object, Items, no_items, item as cons_item}
use Rattle.fx_base.specs.declared.net.Proto.{Proto}
use Rattle.fx_base.specs.Given.{is_given}
use Rattle.fx_base.specs.Same.{same_bytes}
use Rattle.fx_base.specs.TextValues.{ports_of as port_ends}
use Rattle.fx_selector.specs.Tree.{Tree, many, and_of, height, heights}
use Rattle.fx_selector.specs.Rewriting.{service_account_tree}
use Rattle.fx_selector.proofs.Rewritten.{height-rewritten}
use Rattle.fx_model.specs.declared.rules.PortSpec.{PortSpec}
use Rattle.fx_model.specs.declared.rules.PortSpec.TheVariants.{Number, Named}
use Rattle.fx_fields.specs.declared.fault.ReadFault.TheVariants.{BadField}
use Rattle.fx_fields.specs.declared.rule_form.RuleForm.{RuleForm}
use Rattle.fx_fields.specs.declared.rule_form.RulePlace.{RulePlace}
use Rattle.fx_fields.specs.declared.rule_form.RulePlace.TheVariants.{OfPolicy, OfNamespace, OfProfile}
use Rattle.fx_fields.specs.declared.side_selectors.SideSelectors.{SideSelectors}
use Rattle.fx_fields.specs.Forms.{is_port_name}
use Rattle.fx_fields.specs.Paths.{member_path}
use Rattle.fx_fields.specs.Fields.{formed, list_at}
use Rattle.fx_fields.specs.Nets.{nets_of}
use Rattle.fx_fields.specs.Selectors.{selector_at}
use Rattle.fx_fields.specs.SideSelectors.{accounts_at, of_names, own_namespace, namespace_part, with_namespaces, asked_by, positive_selector, side_selectors}
use Rattle.fx_fields.specs.Values.{whole_in, range}
use Rattle.fx_fields.proofs.Readings.{then-if, read-if, choice-if, both, items_from-each}
use Rattle.fx_fields.proofs.SelectorTexts.{IsPart, selector_at-part}
use Rattle.fx_fields.proofs.SideTrees.{AreAccounts, accounts_at-formed}
use Rattle.fx_json.specs.declared.sides.ReadSide.{ReadSide}
use Rattle.fx_json.specs.declared.sides.ReadPorts.{ReadPorts}
use Rattle.fx_json.specs.Ports.{port_of_text, port}
use Rattle.fx_json.specs.Sides.{with_ports, ports_in, ports_at, ports_of, services_at, side}
use Rattle.fx_services.specs.Marks.{star}
use Rattle.fx_services.specs.Lowerable.{is_low, is_other_port, is_lowerable_side}

-- ---- parts of a selector

-- A text's tree has at most 131 levels, rewriting adds one, and so does asking for several together.
abbrev IsLowPart : Option Tree → Type 0
IsLowPart part = IfSome part (λ t. height t ≤ 132)

abbrev AreLowParts : List Tree → Type 0
AreLowParts ts = heights (many ts) ≤ 132

abbrev IsLowOne : Option Tree → Type 0
IsLowOne part = IfSome part (λ t. height t ≤ 138)

parts-append : (ts us : List Tree) → AreLowParts ts → AreLowParts us → AreLowParts (ts ++ us)
parts-append [] us h g = g
parts-append (t ∷ ts) us h g =
    let rest : heights (many (ts ++ us)) ≤ 132 = parts-append ts us (omega (arith, h)) g in omega (arith, h, rest)

parts-option : (part : Option Tree) → IsLowPart part → AreLowParts (option_to_list part)
parts-option None h = omega arith
parts-option (Some t) h = omega (arith, h)

and-low : (ts : List Tree) → AreLowParts ts → height (and_of ts) ≤ 138
and-low [] h = omega arith
and-low (t ∷ []) h = omega (arith, h)
and-low (t ∷ u ∷ us) h = omega (arith, h)

own-low : (part : Option Tree) → IsPart part → IsLowPart part
own-low None h = tt
own-low (Some t) h = omega (arith, h.1)

not-low : (part : Option Tree) → IsPart part → IsLowOne part
not-low None h = tt
not-low (Some t) h = omega (arith, h.1)

-- ---- service accounts and namespaces

names-low : (names : List (List ℕ)) → IsLowPart (of_names names)
names-low [] = tt
names-low (n ∷ ns) = omega arith

chosen-low : (part : Option Tree) → IsPart part → IsLowPart (option_map service_account_tree part)
chosen-low None h = tt
chosen-low (Some t) h = omega (arith, h.1, height-rewritten (codes "pcsa.") (codes "projectcalico.org/serviceaccount") t)

own_namespace-low : (place : RulePlace) → IsLowPart (own_namespace place)
own_namespace-low OfPolicy = tt
own_namespace-low (OfNamespace ns) = omega arith
own_namespace-low OfProfile = tt

namespace-low : (place : RulePlace) (asked : Bool) (part : Option Tree) → IsPart part → IsLowPart (namespace_part place asked part)
namespace-low place asked (Some t) h = omega (arith, h.1, height-rewritten (codes "pcns.") (codes "projectcalico.org/namespace") t)
namespace-low place true None h = own_namespace-low place
namespace-low place false None h = tt

-- ---- the selectors of a side

-- what a side asks for apart from namespaces, by the names and the selector of its service accounts
abbrev pub asked_earlier : Option Tree → List (List ℕ) → Option Tree → List Tree
asked_earlier own names chosen =
    option_to_list own ++ (option_to_list (of_names names) ++ option_to_list (option_map service_account_tree chosen))

earlier-low : (own : Option Tree) (names : List (List ℕ)) (chosen : Option Tree) → IsPart own → IsPart chosen → AreLowParts (asked_earlier own names chosen)
earlier-low own names chosen o a =
    parts-append (option_to_list own) (option_to_list (of_names names) ++ option_to_list (option_map service_account_tree chosen))
    (parts-option own (own-low own o))
    (parts-append (option_to_list (of_names names)) (option_to_list (option_map service_account_tree chosen))
    (parts-option (of_names names) (names-low names))
    (parts-option (option_map service_account_tree chosen) (chosen-low chosen a)))

asked-low : (parts : List Tree) → AreLowParts parts → IsLowOne (asked_by parts)
asked-low [] h = tt
asked-low (t ∷ ts) h = and-low (t ∷ ts) h

positive-low : (place : RulePlace) (own : Option Tree) (names : List (List ℕ)) (chosen namespaces : Option Tree) → IsPart own → IsPart chosen → IsPart namespaces → IsLowOne (asked_by (with_namespaces place namespaces (asked_earlier own names chosen)))
positive-low place own names chosen namespaces o a n =
    let parts = asked_earlier own names chosen in
    asked-low (with_namespaces place namespaces parts)
    (parts-append parts (option_to_list (namespace_part place (is_given parts) namespaces)) (earlier-low own names chosen o a)
    (parts-option (namespace_part place (is_given parts) namespaces) (namespace-low place (is_given parts) namespaces n)))

low-tested : (part : Option Tree) → IsLowOne part → is_low part ≡ true
low-tested None h = refl
low-tested (Some t) h = le-leb (height t) 138 h

abbrev AreLow : SideSelectors → Type 0
AreLow s = (is_low s.selector && is_low s.not_selector) ≡ true

side_selectors-low : (place : RulePlace) (path : List ℕ) (d : Data) → IfOk (side_selectors place path d) AreLow
unfolding side_selectors
side_selectors-low place path d =
    then-if AreLow (selector_at path (codes "selector") d) _ (λ own own_read.
    then-if AreLow (selector_at path (codes "notSelector") d) _ (λ not_own not_own_read.
    then-if AreLow (selector_at path (codes "namespaceSelector") d) _ (λ namespaces namespaces_read.
    then-if AreLow (accounts_at path d) _ (λ accounts accounts_read.
    let a = read-if AreAccounts (accounts_at path d) accounts (accounts_at-formed path d) accounts_read in
    both (is_low (positive_selector place own accounts namespaces)) (is_low not_own)
    (low-tested (positive_selector place own accounts namespaces)
    (positive-low place own accounts.names accounts.chosen namespaces
    (read-if IsPart (selector_at path (codes "selector") d) own (selector_at-part path (codes "selector") d) own_read)
    a.1
    (read-if IsPart (selector_at path (codes "namespaceSelector") d) namespaces (selector_at-part path (codes "namespaceSelector") d) namespaces_read)))
    (low-tested not_own (not-low not_own (read-if IsPart (selector_at path (codes "notSelector") d) not_own (selector_at-part path (codes "notSelector") d) not_own_read)))))))

-- ---- ports

-- `*` is no name of a port
pub port_name-other : (s : List ℕ) → is_port_name s ≡ true → not (bytes_eq s star) ≡ true
port_name-other s e = by (bytes_eq s star) refl
  where
    by : (b : Bool) → bytes_eq s star ≡ b → not b ≡ true
    by true t = (let wrong : false ≡ true = subst (λ (q : List ℕ). is_port_name q ≡ true) (same_bytes s star t) e in absurd (false≢true wrong))
    by false t = refl

abbrev IsOtherPort : PortSpec → Type 0
IsOtherPort p = is_other_port p ≡ true

port_of_text-other : (path s : List ℕ) (o : Option (ℕ × ℕ)) → IfOk (port_of_text path s o) IsOtherPort
port_of_text-other path s (Some ends) = refl
port_of_text-other path s None = choice-if IsOtherPort (is_port_name s) (Named s) (BadField path) (port_name-other s)

numbered : (path : List ℕ) (o : Option ℕ) → IfOk (formed path (option_map (λ n. Number (range n n)) o)) IsOtherPort
numbered path None = tt
numbered path (Some n) = refl

port-other : (path : List ℕ) (d : Data) → IfOk (port path d) IsOtherPort
port-other path null = numbered path (whole_in 0 65535 null)
port-other path (boolean b) = numbered path (whole_in 0 65535 (boolean b))
port-other path (number n) = numbered path (whole_in 0 65535 (number n))
port-other path (string s) = port_of_text-other path s (port_ends s)
port-other path (array ds) = numbered path (whole_in 0 65535 (array ds))
port-other path (object ms) = numbered path (whole_in 0 65535 (object ms))

abbrev AreOtherPorts : List PortSpec → Type 0
AreOtherPorts ports = list_all is_other_port ports ≡ true

ports_in-other : (proto : Option Proto) (path : List ℕ) (ds : Items) → IfOk (ports_in proto path ds) AreOtherPorts
ports_in-other proto path no_items = refl
ports_in-other proto path (cons_item d ds) =
    then-if AreOtherPorts (with_ports proto path) _ (λ x is. items_from-each is_other_port port port-other path 0 (cons_item d ds))

ports_at-other : (proto : Option Proto) (path k : List ℕ) (d : Data) → IfOk (ports_at proto path k d) AreOtherPorts
unfolding ports_at
ports_at-other proto path k d =
    then-if AreOtherPorts (list_at path k d) _ (λ ds is. ports_in-other proto (member_path path k) ds)

abbrev HasOtherPorts : ReadPorts → Type 0
HasOtherPorts p = (list_all is_other_port p.ports && list_all is_other_port p.not_ports) ≡ true

ports_of-other : (proto : Option Proto) (path : List ℕ) (d : Data) → IfOk (ports_of proto path d) HasOtherPorts
unfolding ports_of
ports_of-other proto path d =
    then-if HasOtherPorts (ports_at proto path (codes "ports") d) _ (λ ports ports_read.
    then-if HasOtherPorts (ports_at proto path (codes "notPorts") d) _ (λ not_ports not_ports_read.
    both (list_all is_other_port ports) (list_all is_other_port not_ports)
    (read-if AreOtherPorts (ports_at proto path (codes "ports") d) ports (ports_at-other proto path (codes "ports") d) ports_read)
    (read-if AreOtherPorts (ports_at proto path (codes "notPorts") d) not_ports (ports_at-other proto path (codes "notPorts") d) not_ports_read)))

-- ---- sides

abbrev pub IsLowerableSide : ReadSide → Type 0
IsLowerableSide s = is_lowerable_side s.side ≡ true

pub side-low : (form : RuleForm) (proto : Option Proto) (path : List ℕ) (d : Data) → IfOk (side form proto path d) IsLowerableSide
unfolding side
side-low form proto path d =
    then-if IsLowerableSide (nets_of path d) _ (λ nets _.
    then-if IsLowerableSide (side_selectors form.place path d) _ (λ chosen chosen_read.
    then-if IsLowerableSide (ports_of proto path d) _ (λ ports ports_read.
    then-if IsLowerableSide (services_at form.services path d) _ (λ passed _.
    both (is_low chosen.selector && is_low chosen.not_selector) (list_all is_other_port ports.ports && list_all is_other_port ports.not_ports)
    (read-if AreLow (side_selectors form.place path d) chosen (side_selectors-low form.place path d) chosen_read)
    (read-if HasOtherPorts (ports_of proto path d) ports (ports_of-other proto path d) ports_read)))))
