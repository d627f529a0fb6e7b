-- The policy reference: what resources say of the first packet of a connection. From Calico's resource reference
-- (`projectcalico.org/v3`): tiers and policies in their order, then profiles in listed order, each rule allowing, denying,
-- logging or passing. It knows no chain, mark or jump.
use Rattle.std.specs.Prelude.{ℕ, suc, Bool, true, false, not, ◌&&◌, List, [], ◌∷◌, map, nat_eq, codes, Option, Some, None}
use Rattle.std.specs.List.{list_any, flat_map, starts_with}
use Rattle.std.specs.Str.{bytes_eq}
use Rattle.std.specs.FinMap as maps
use Rattle.fx_model.specs.declared.ids.ItemKey.{ItemKey}
use Rattle.fx_model.specs.declared.packet.Packet.{Packet}
use Rattle.fx_model.specs.declared.packet.Verdict.{Verdict}
use Rattle.fx_model.specs.declared.packet.Verdict.TheVariants.{Allow, Deny}
use Rattle.fx_model.specs.declared.chain.Reason.{Reason}
use Rattle.fx_model.specs.declared.chain.Reason.TheVariants as reason
use Rattle.fx_model.specs.declared.rules.Action.{Action}
use Rattle.fx_model.specs.declared.rules.Action.TheVariants as action
use Rattle.fx_model.specs.declared.rules.Rule.{Rule}
use Rattle.fx_model.specs.declared.rules.Side.{Side}
use Rattle.fx_model.specs.declared.rules.PortSpec.{PortSpec}
use Rattle.fx_model.specs.declared.rules.PortSpec.TheVariants.{Number, Named}
use Rattle.fx_selector.specs.Tree.{Tree}
use Rattle.fx_selector.specs.Truth.{holds}
use Rattle.fx_model.specs.declared.resources.Item.{Item}
use Rattle.fx_model.specs.declared.resources.Item.TheVariants as item
use Rattle.fx_model.specs.Labels.{labels_of}
use Rattle.fx_model.specs.Sets.{item_nets, selector_or_all}
use Rattle.fx_model.specs.declared.ids.PolicyId.{PolicyId}
use Rattle.fx_model.specs.declared.policy.Policy.{Policy}
use Rattle.fx_model.specs.declared.resources.Endpoint.{Endpoint}
use Rattle.fx_model.specs.declared.resources.Profile.{Profile}
use Rattle.fx_model.specs.declared.resources.Resources.{Resources}
use Rattle.fx_model.specs.declared.chain.End.{End}
use Rattle.fx_model.specs.declared.chain.End.TheVariants.{Source, Dest}
use Rattle.fx_model.specs.Directions.{Direction, Ingress, Egress}
use Rattle.fx_model.specs.Criteria.{address_at, port_at, proto_is, proto_is_not, lies_in, lies_in_given, holds_port, icmp_is, icmp_is_not}
use Rattle.fx_model.specs.Resources.{served_endpoints, items_of}
use Rattle.fx_model.specs.Active.{applying}
use Rattle.fx_model.specs.TierOrder.{TierHead, passes_at_end, place_in, tiers_of}

-- ---- rules, in their order

-- a rule as a packet meets it
pub record MetRule : Type 0 where
  pub why : Reason
  pub action : Action
  pub matches : Bool

-- what rules say: nothing, that the tier is passed, or a verdict with its reason
pub data Answer : Type 0 where
  Silent Passed : Answer
  Allowed Denied : Reason → Answer

-- what a rule that matches says, where those behind it say `rest`
abbrev pub answer_of : Action → Reason → Answer → Answer
answer_of action.Allow why rest = Allowed why
answer_of action.Deny why rest = Denied why
answer_of action.Log why rest = rest
answer_of action.Pass why rest = Passed

-- the first rule that matches and decides or passes
abbrev pub first_answer : List MetRule → Answer
first_answer [] = Silent
first_answer (r ∷ rs) = elim r.matches [ true ↦ answer_of r.action r.why (first_answer rs) | false ↦ first_answer rs ]

-- ---- tiers and profiles

pub record Decision : Type 0 where
  pub verdict : Verdict
  pub why : Reason

-- a tier that takes part: whether its default action is Pass, and the rules of its policies that apply, in one list
pub record Tier : Type 0 where
  pub name : List ℕ
  pub pass_at_end : Bool
  pub rules : List MetRule

-- what the rules of a tier's policies say
abbrev pub policies_answer : Tier → Answer
policies_answer t = first_answer t.rules

-- the end of a tier denies, unless its default action is Pass
abbrev pub end_of_tier : List ℕ → Decision
end_of_tier name = record { verdict = Deny; why = reason.EndOfTier name }

abbrev pub passed_or_denied : Bool → List ℕ → Decision → Decision
passed_or_denied true name rest = rest
passed_or_denied false name rest = end_of_tier name

-- behind a tier's policies: where they say nothing the tier's end decides, and Pass goes on behind the tier
abbrev pub after_policies : Answer → Decision → Decision → Decision
after_policies Silent end rest = end
after_policies Passed end rest = rest
after_policies (Allowed why) end rest = record { verdict = Allow; why = why }
after_policies (Denied why) end rest = record { verdict = Deny; why = why }

abbrev pub tiers_verdict : List Tier → Decision → Decision
tiers_verdict [] rest = rest
tiers_verdict (t ∷ ts) rest =
    after_policies (policies_answer t) (passed_or_denied t.pass_at_end t.name (tiers_verdict ts rest)) (tiers_verdict ts rest)

-- a listed profile: missing, or there with its rules
pub data Listed : Type 0 where
  Missing : List ℕ → Listed
  There : List MetRule → Listed

-- a profile decides, or else the rest does
abbrev pub or_rest : Answer → Decision → Decision
or_rest Silent rest = rest
or_rest Passed rest = rest
or_rest (Allowed why) rest = record { verdict = Allow; why = why }
or_rest (Denied why) rest = record { verdict = Deny; why = why }

-- a missing profile denies at its place
abbrev pub profile_verdict : Listed → Decision → Decision
profile_verdict (Missing name) rest = record { verdict = Deny; why = reason.MissingProfile name }
profile_verdict (There rules) rest = or_rest (first_answer rules) rest

-- the end denies
abbrev pub profiles_verdict : List Listed → Decision
profiles_verdict [] = record { verdict = Deny; why = reason.NoProfileRule }
profiles_verdict (p ∷ ps) = profile_verdict p (profiles_verdict ps)

-- ---- an endpoint of the resources

-- an item on which the selector holds has the address
abbrev pub selects_address : Resources → Tree → ℕ → Bool
selects_address R t x = list_any (λ i. holds t (labels_of R i) && lies_in (item_nets i.1) x) (items_of R)

abbrev pub selected_given : Resources → Option Tree → ℕ → Bool
selected_given R None x = true
selected_given R (Some t) x = selects_address R t x

abbrev pub not_selected_given : Resources → Option Tree → ℕ → Bool
not_selected_given R None x = true
not_selected_given R (Some t) x = not (selects_address R t x)

-- an endpoint has the address, and a port of this name, protocol and number
abbrev pub has_port : List ℕ → ℕ → ℕ → ℕ → Item → Bool
has_port name proto x y (item.Endpoint e) =
    list_any (λ a. nat_eq x a.0) e.addresses && list_any (λ q. nat_eq q.proto.0 proto && (bytes_eq q.name name && nat_eq y q.number)) e.ports
has_port name proto x y (item.NetSet s) = false
has_port name proto x y (item.Profile p) = false
has_port name proto x y (item.Tier t) = false
has_port name proto x y (item.Policy p) = false

-- The endpoints that are meant are those on which the side's selector holds, or all where none is given.
abbrev pub named_port_holds : Resources → Option Tree → List ℕ → ℕ → ℕ → ℕ → Bool
named_port_holds R t name proto x y = list_any (λ i. holds (selector_or_all t) (labels_of R i) && has_port name proto x y i.1) (items_of R)

abbrev pub port_holds : Resources → Option Tree → End → Packet → PortSpec → Bool
port_holds R t end a (Number r) = holds_port r a.proto.0 (port_at end a)
port_holds R t end a (Named name) = named_port_holds R t name a.proto.0 (address_at end a) (port_at end a)

abbrev pub some_port : Resources → Option Tree → End → List PortSpec → Packet → Bool
some_port R t end ps a = list_any (port_holds R t end a) ps

-- some member holds, if there are members
abbrev pub some_port_given : Resources → Option Tree → End → List PortSpec → Packet → Bool
some_port_given R t end [] a = true
some_port_given R t end (p ∷ ps) a = some_port R t end (p ∷ ps) a

-- What a rule asks of one end of the packet's way: a list holds if one of its members does, and a negated one if none does. A
-- selector holds for an address of an item that it selects.
abbrev pub side_matches : Resources → End → Side → Packet → Bool
side_matches R end s a =
    (lies_in_given s.nets (address_at end a) && not (lies_in s.not_nets (address_at end a)))
    && ((selected_given R s.selector (address_at end a) && not_selected_given R s.not_selector (address_at end a))
    && (some_port_given R s.selector end s.ports a && not (some_port R s.selector end s.not_ports a)))

-- all criteria hold together
abbrev pub rule_matches : Resources → Rule → Packet → Bool
rule_matches R r a =
    not r.never
    && ((proto_is r.protocol a.proto.0 && proto_is_not r.not_protocol a.proto.0)
    && ((icmp_is r.icmp a && icmp_is_not r.not_icmp a)
    && (side_matches R Source r.source a && side_matches R Dest r.destination a)))

-- rules as a packet meets them, each told by its place
abbrev pub met_rules : Resources → Packet → (ℕ → Reason) → ℕ → List Rule → List MetRule
met_rules R a why place [] = []
met_rules R a why place (r ∷ rs) =
    record { why = why place; action = r.action; matches = rule_matches R r a } ∷ met_rules R a why (suc place) rs

abbrev pub side_of : Direction → Profile → List Rule
side_of Ingress p = p.ingress
side_of Egress p = p.egress

abbrev pub there_or_missing : Resources → Direction → Packet → List ℕ → Option Profile → Listed
there_or_missing R d a name None = Missing name
there_or_missing R d a name (Some p) = There (met_rules R a (reason.Profile name) 1 (side_of d p))

abbrev pub listed_profile : Resources → Direction → Packet → List ℕ → Listed
listed_profile R d a name = there_or_missing R d a name (maps.get R.profiles name)

abbrev pub rules_of : Direction → Policy → List Rule
rules_of Ingress p = p.ingress
rules_of Egress p = p.egress

abbrev pub met_policy : Resources → Direction → Packet → PolicyId × Policy → List MetRule
met_policy R d a x = met_rules R a (reason.Policy x.0) 1 (rules_of d x.1)

-- a tier of this name, with these of its policies
abbrev pub met_tier : Resources → Direction → Packet → TierHead × List (PolicyId × Policy) → Tier
met_tier R d a t = record {
  name = t.0.name;
  pass_at_end = passes_at_end (maps.get R.tiers t.0.name);
  rules = flat_map (met_policy R d a) t.1;
}

-- the tiers that take part for an endpoint: those of the policies that apply to it, in order, each with its policies in order
abbrev pub tiers_for : Resources → Direction → Endpoint → Packet → List Tier
tiers_for R d e a = map (met_tier R d a) (tiers_of (map (λ x. (place_in R.tiers x, x)) (applying R d e)))

abbrev pub endpoint_verdict : Resources → Direction → Endpoint → Packet → Decision
endpoint_verdict R d e a =
    tiers_verdict (tiers_for R d e a) (profiles_verdict (map (listed_profile R d a) e.profiles))

-- ---- a packet

-- the endpoint of the first of these that has this interface
abbrev pub with_iface : List (ItemKey × Endpoint) → List ℕ → Option Endpoint
with_iface [] iface = None
with_iface (x ∷ xs) iface = elim (bytes_eq iface x.1.iface) [ true ↦ Some x.1 | false ↦ with_iface xs iface ]

-- the served endpoint on an interface
abbrev pub endpoint_at : Resources → List ℕ → Option Endpoint
endpoint_at R iface = with_iface (served_endpoints R) iface

abbrev pub verdict_at : Resources → Direction → Packet → Option Endpoint → Option Decision
verdict_at R d a None = None
verdict_at R d a (Some e) = Some (endpoint_verdict R d e a)

-- an interface that begins so is of a workload
abbrev pub is_workload : List ℕ → Bool
is_workload iface = starts_with nat_eq iface (codes "cali")

-- a workload's interface without an endpoint is unknown, and each other one is free
abbrev pub unknown_or_free : Bool → Option Decision
unknown_or_free true = Some (record { verdict = Deny; why = reason.UnknownInterface })
unknown_or_free false = None

-- what is decided at an interface, by its endpoint if it has one
abbrev pub side_verdict : Option Decision → List ℕ → Option Decision
side_verdict (Some x) iface = Some x
side_verdict None iface = unknown_or_free (is_workload iface)

pub record Outcome : Type 0 where
  pub verdict : Verdict
  pub egress : Option Reason
  pub ingress : Option Reason

abbrev pub with_ingress : Option Reason → Option Decision → Outcome
with_ingress egress None = record { verdict = Allow; egress = egress; ingress = None }
with_ingress egress (Some x) = record { verdict = x.verdict; egress = egress; ingress = Some x.why }

-- egress comes first, and where it denies there is no ingress
abbrev pub both_sides : Option Decision → Option Decision → Outcome
both_sides None ingress = with_ingress None ingress
both_sides (Some x) ingress =
    elim x.verdict [
      | Allow ↦ with_ingress (Some x.why) ingress
      | Deny ↦ record { verdict = Deny; egress = Some x.why; ingress = None }
    ]

-- a packet in state NEW
abbrev pub packet_verdict : Resources → Packet → Outcome
packet_verdict R a =
    both_sides (side_verdict (verdict_at R Egress a (endpoint_at R a.iface_in)) a.iface_in)
    (side_verdict (verdict_at R Ingress a (endpoint_at R a.iface_out)) a.iface_out)
