-- The selectors of a policy: texts in the selector language of Calico's resource reference (`projectcalico.org/v3`,
-- "Selectors"), and the one selector that they make together. An empty text says nothing, as an absent one does; a text
-- of blanks says `all()`.
use Rattle.std.specs.Prelude.{ℕ, ◌+◌, ◌-◌, List, ◌++◌, length, nat_lt, if◌then◌else◌, Option, Some, None, option_map, option_to_list, Result, Ok, Err, codes}
use Rattle.serde_json.specs.Data.{Data}
use Rattle.serde_json.specs.Find.{as_str}
use Rattle.fx_selector.specs.Tree.{Tree, equal, and_of}
use Rattle.fx_selector.specs.Reading.{Res, Got, Stop}
use Rattle.fx_selector.specs.Reader.{parsed}
use Rattle.fx_selector.specs.Rewriting.{namespace_tree, service_account_tree}
use Rattle.fx_selector.specs.declared.fault.SelectorFault.{SelectorFault}
use Rattle.fx_selector.specs.declared.fault.SelectorFault.TheVariants.{Unexpected, TooDeep, TooLong, KeyTooLong, Memory}
use Rattle.fx_base.specs.Given.{is_given}
use Rattle.fx_fields.specs.declared.fault.ReadFault.{ReadFault}
use Rattle.fx_fields.specs.declared.fault.ReadFault.TheVariants.{BadField, BadSelector}
use Rattle.fx_fields.specs.Fields.{◌>>=◌, Reader, defaulted}

-- ---- texts

-- How many bytes of a text come before its fault. One that is too long is at fault behind the longest that may be.
abbrev pub fault_place : SelectorFault → Option ℕ
fault_place (Unexpected at) = Some at
fault_place (TooDeep at) = Some at
fault_place TooLong = Some 65536
fault_place (KeyTooLong at) = Some at
fault_place Memory = None

-- what reading a text of this length gives: its tree, or the place where reading stops
abbrev pub tree_or_place : ℕ → Res Tree → Result Tree ℕ
tree_or_place size (Got t rest) = Ok t
tree_or_place size (Stop why rest) = Err (size - length rest)

-- The tree that a text spells, or the place of its fault. That this is what the selector language says of the text is a
-- law of its own: see `laws`.
unfoldable pub selector_of : List ℕ → Result Tree ℕ
selector_of text =
    if nat_lt 65536 (length text) then Err 65536
    else tree_or_place (length text) (parsed 512 (length text + 1) 64 text)

abbrev pub placed : List ℕ → Result Tree ℕ → Result Tree ReadFault
placed path (Ok t) = Ok t
placed path (Err at) = Err (BadSelector path at)

-- a text that has to be a selector
abbrev pub spelled : List ℕ → List ℕ → Result Tree ReadFault
spelled path s = placed path (selector_of s)

-- a selector, where the text isn't empty
abbrev pub selector : Reader (Option Tree)
selector path d = by_text (as_str d)
  where
    by_text : Option (List ℕ) → Result (Option Tree) ReadFault
    by_text None = Err (BadField path)
    by_text (Some s) = if is_given s then (spelled path s >>= λ t. Ok (Some t)) else Ok None

-- the selector of this name, none where it is absent
unfoldable pub selector_at : List ℕ → List ℕ → Data → Result (Option Tree) ReadFault
selector_at = defaulted None selector

-- ---- the selector of a policy

-- What all given parts ask for together: a policy's own selector, that of its service accounts and that of its
-- namespaces. Without parts it is `all()`.
abbrev pub all_parts : Option Tree → Option Tree → Option Tree → Tree
all_parts own accounts namespaces =
    and_of (option_to_list own ++ (option_to_list accounts ++ option_to_list namespaces))

-- GlobalNetworkPolicy: `selector`, `namespaceSelector` and `serviceAccountSelector`
unfoldable pub global_selector : Reader Tree
global_selector path spec = do
  own ← selector_at path (codes "selector") spec
  namespaces ← selector_at path (codes "namespaceSelector") spec
  accounts ← selector_at path (codes "serviceAccountSelector") spec
  Ok (all_parts own (option_map service_account_tree accounts) (option_map namespace_tree namespaces))

-- the endpoints of a namespace
abbrev pub of_namespace : List ℕ → Tree
of_namespace ns = equal (codes "projectcalico.org/namespace") ns

-- NetworkPolicy: `selector` and `serviceAccountSelector`, within the policy's namespace
unfoldable pub namespaced_selector : List ℕ → Reader Tree
namespaced_selector ns path spec = do
  own ← selector_at path (codes "selector") spec
  accounts ← selector_at path (codes "serviceAccountSelector") spec
  Ok (all_parts own (option_map service_account_tree accounts) (Some (of_namespace ns)))
