-- Members of a tier and of a policy that need no rules, in the words of Calico's resource reference (`projectcalico.org/v3`, Tier,
-- GlobalNetworkPolicy and NetworkPolicy).
use Rattle.std.specs.Prelude.{ℕ, ℤ, List, [], ◌∷◌, Bool, true, false, if◌then◌else◌, Option, Some, None, option_and_then, Result, Ok, Err, codes}
use Rattle.std.specs.List.{list_any}
use Rattle.std.specs.Str.{bytes_eq}
use Rattle.serde_json.specs.Find.{as_bool, as_number, as_str, as_i64}
use Rattle.fx_fields.specs.declared.fault.ReadFault.{ReadFault}
use Rattle.fx_fields.specs.declared.fault.ReadFault.TheVariants.{BadField, Unsupported}
use Rattle.fx_fields.specs.declared.texts.TextForm.TheVariants.{Name}
use Rattle.fx_fields.specs.declared.policy_fields.PolicyType.{PolicyType}
use Rattle.fx_fields.specs.declared.policy_fields.PolicyType.TheVariants.{Ingress, Egress}
use Rattle.fx_fields.specs.declared.policy_fields.Directions.{Directions}
use Rattle.fx_fields.specs.declared.policy_fields.TierPlace.{TierPlace}
use Rattle.fx_fields.specs.Fields.{◌>>=◌, Reader, formed, defaulted, optional}
use Rattle.fx_fields.specs.Forms.{text}

-- ---- tiers

-- an order is a whole number of 64 bits, signed, that is written as an integer
abbrev pub order : Reader ℤ
order path d = formed path (option_and_then as_i64 (as_number d))

-- whether a tier with this default action passes at its end
abbrev pub passes_named : List ℕ → Option Bool
passes_named s =
    if bytes_eq s (codes "Deny") then Some false
    else (if bytes_eq s (codes "Pass") then Some true else None)

abbrev pub default_action : Reader Bool
default_action path d = formed path (option_and_then passes_named (as_str d))

-- ---- where a policy stands, and its flags

-- the tier, which is `default` where none is named, and the order there
unfoldable pub place_of : Reader TierPlace
place_of path spec = do
  tier ← defaulted (codes "default") (text Name) path (codes "tier") spec
  o ← optional order path (codes "order") spec
  Ok (record { tier = tier; order = o })

-- what isn't read yet unless it is false
abbrev pub unset : Reader (Unit {0})
unset path d = by_flag (as_bool d)
  where
    by_flag : Option Bool → Result (Unit {0}) ReadFault
    by_flag None = Err (BadField path)
    by_flag (Some true) = Err (Unsupported path)
    by_flag (Some false) = Ok tt

unfoldable pub flags : Reader (Unit {0})
flags path spec = do
  _ ← defaulted tt unset path (codes "doNotTrack") spec
  _ ← defaulted tt unset path (codes "preDNAT") spec
  defaulted tt unset path (codes "applyOnForward") spec

-- ---- directions

abbrev pub policy_type_named : List ℕ → Option PolicyType
policy_type_named s =
    if bytes_eq s (codes "Ingress") then Some Ingress
    else (if bytes_eq s (codes "Egress") then Some Egress else None)

abbrev pub policy_type : Reader PolicyType
policy_type path d = formed path (option_and_then policy_type_named (as_str d))

abbrev pub is_ingress : PolicyType → Bool
is_ingress Ingress = true
is_ingress Egress = false

abbrev pub is_egress : PolicyType → Bool
is_egress Ingress = false
is_egress Egress = true

-- the directions of a policy that lists none, by whether it has rules for ingress and for egress
abbrev pub directions_by_rules : Bool → Bool → Directions
directions_by_rules false false = record { on_ingress = true; on_egress = false }
directions_by_rules true false = record { on_ingress = true; on_egress = false }
directions_by_rules false true = record { on_ingress = false; on_egress = true }
directions_by_rules true true = record { on_ingress = true; on_egress = true }

-- an empty list of types counts as absent
abbrev pub directions_of : List PolicyType → Bool → Bool → Directions
directions_of [] has_ingress has_egress = directions_by_rules has_ingress has_egress
directions_of (t ∷ ts) has_ingress has_egress =
    record { on_ingress = list_any is_ingress (t ∷ ts); on_egress = list_any is_egress (t ∷ ts) }
