-- What a side of a rule asks of the endpoints and network sets that have its addresses. From Calico's resource reference
-- (`projectcalico.org/v3`, EntityRule): a selector of theirs, service accounts by name and by a selector, and a selector of
-- namespaces. All that is given is asked together. A side of a policy of a namespace that asks for something and names no
-- namespaces asks within the policy's own.
use Rattle.std.specs.Prelude.{ℕ, List, ◌++◌, Bool, if◌then◌else◌, Option, Some, None, option_map, option_to_list, Ok, codes}
use Rattle.fx_selector.specs.Tree.{Tree, within, set_of, and_of}
use Rattle.fx_selector.specs.Rewriting.{namespace_tree, service_account_tree}
use Rattle.fx_base.specs.Given.{is_given}
use Rattle.fx_fields.specs.declared.rule_form.RulePlace.{RulePlace}
use Rattle.fx_fields.specs.declared.rule_form.RulePlace.TheVariants.{OfPolicy, OfNamespace, OfProfile}
use Rattle.fx_fields.specs.declared.side_selectors.Accounts.{Accounts}
use Rattle.fx_fields.specs.declared.side_selectors.SideSelectors.{SideSelectors}
use Rattle.fx_fields.specs.declared.texts.TextForm.TheVariants.{Name}
use Rattle.fx_fields.specs.Paths.{member_path}
use Rattle.fx_fields.specs.Fields.{◌>>=◌, Reader, section, items}
use Rattle.fx_fields.specs.Forms.{text}
use Rattle.fx_fields.specs.Selectors.{selector_at, of_namespace}

-- ---- service accounts

-- the names and the selector that an object of service accounts holds
unfoldable pub accounts_in : Reader Accounts
accounts_in path d = do
  names ← items (text Name) path (codes "names") d
  chosen ← selector_at path (codes "selector") d
  Ok (record { names = names; chosen = chosen })

unfoldable pub accounts_at : Reader Accounts
accounts_at path side = do
  accounts ← section (member_path path (codes "serviceAccounts")) (codes "serviceAccounts") side
  accounts_in (member_path path (codes "serviceAccounts")) accounts

-- the endpoints of service accounts of these names
abbrev pub of_accounts : List (List ℕ) → Tree
of_accounts names = within (codes "projectcalico.org/serviceaccount") (set_of names)

-- an empty list names none
abbrev pub of_names : List (List ℕ) → Option Tree
of_names names = if is_given names then Some (of_accounts names) else None

-- ---- namespaces

-- the policy's own namespace
abbrev pub own_namespace : RulePlace → Option Tree
own_namespace OfPolicy = None
own_namespace (OfNamespace ns) = Some (of_namespace ns)
own_namespace OfProfile = None

abbrev pub unnamed_namespace : RulePlace → Bool → Option Tree
unnamed_namespace place asked = if asked then own_namespace place else None

-- the namespaces that a side names, or where it asks for something and names none, the policy's own
abbrev pub namespace_part : RulePlace → Bool → Option Tree → Option Tree
namespace_part place asked (Some namespaces) = Some (namespace_tree namespaces)
namespace_part place asked None = unnamed_namespace place asked

-- ---- all together

-- what a side asks for apart from namespaces
abbrev pub earlier_parts : Option Tree → Accounts → List Tree
earlier_parts own accounts =
    option_to_list own ++ (option_to_list (of_names accounts.names) ++ option_to_list (option_map service_account_tree accounts.chosen))

abbrev pub with_namespaces : RulePlace → Option Tree → List Tree → List Tree
with_namespaces place namespaces parts = parts ++ option_to_list (namespace_part place (is_given parts) namespaces)

-- what these parts ask for together; without parts nothing is asked
abbrev pub asked_by : List Tree → Option Tree
asked_by parts = if is_given parts then Some (and_of parts) else None

abbrev pub positive_selector : RulePlace → Option Tree → Accounts → Option Tree → Option Tree
positive_selector place own accounts namespaces = asked_by (with_namespaces place namespaces (earlier_parts own accounts))

-- The selectors of a side. `notSelector` stands as it is written.
unfoldable pub side_selectors : RulePlace → Reader SideSelectors
side_selectors place path side = do
  own ← selector_at path (codes "selector") side
  not_own ← selector_at path (codes "notSelector") side
  namespaces ← selector_at path (codes "namespaceSelector") side
  accounts ← accounts_at path side
  Ok (record { selector = positive_selector place own accounts namespaces; not_selector = not_own })
