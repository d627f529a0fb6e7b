-- What resources say of the first packet of a connection where rules may name services. From Calico's resource
-- reference (`projectcalico.org/v3`, EntityRule) and Kubernetes' EndpointSlice (`discovery.k8s.io/v1`): a source
-- service asks for an address of one of its slices, and a destination service for an address and a port of one. All
-- else is as without services (`packet_verdict`), over resources in which no slice stands: slices satisfy no selector
-- and no named port, and places are those of rules as they are written.
use Rattle.std.specs.Prelude.{ℕ, suc, List, [], ◌∷◌, map, Bool, true, false, ◌&&◌, nat_eq, Option, Some, None}
use Rattle.std.specs.List.{list_any, flat_map}
use Rattle.std.specs.Option.{option_map_or}
use Rattle.std.specs.Str.{bytes_eq}
use Rattle.std.specs.FinMap as maps
use Rattle.fx_model.specs.declared.chain.Reason.{Reason}
use Rattle.fx_model.specs.declared.chain.Reason.TheVariants as reason
use Rattle.fx_model.specs.declared.ids.Key.TheVariants as key
use Rattle.fx_model.specs.declared.ids.PolicyId.{PolicyId}
use Rattle.fx_model.specs.declared.packet.Packet.{Packet}
use Rattle.fx_model.specs.declared.policy.Policy.{Policy}
use Rattle.fx_model.specs.declared.resources.Endpoint.{Endpoint}
use Rattle.fx_model.specs.declared.resources.Profile.{Profile}
use Rattle.fx_model.specs.Active.{applying}
use Rattle.fx_model.specs.Directions.{Direction, Ingress, Egress}
use Rattle.fx_model.specs.Policy.{MetRule, Tier, Listed, Missing, There, Decision, Outcome, rule_matches, tiers_verdict, profiles_verdict, side_verdict, endpoint_at, both_sides, side_of, rules_of}
use Rattle.fx_model.specs.TierOrder.{TierHead, passes_at_end, place_in, tiers_of}
use Rattle.fx_fields.specs.declared.names.NamespacedName.{NamespacedName}
use Rattle.fx_services.specs.declared.services.RuleServices.{RuleServices}
use Rattle.fx_services.specs.declared.slice_fields.SlicePort.{SlicePort}
use Rattle.fx_services.specs.declared.slices.Slice.{Slice}
use Rattle.fx_services.specs.Lowering.{WrittenRule, written_rules}
use Rattle.fx_services.specs.Written.{Written, services_at}

-- ---- slices

-- a slice of this service
abbrev pub is_of : NamespacedName → Slice → Bool
is_of v s = bytes_eq s.named.ns v.ns && option_map_or (λ name. bytes_eq name v.name) s.service false

abbrev pub has_address : ℕ → Slice → Bool
has_address x s = list_any (λ a. nat_eq x a.0) s.addresses

abbrev pub is_port : ℕ → ℕ → SlicePort → Bool
is_port proto y q = nat_eq q.proto.0 proto && nat_eq y q.number

abbrev pub has_port : ℕ → ℕ → Slice → Bool
has_port proto y s = list_any (is_port proto y) s.ports

-- some slice of the service has the address a packet comes from, or the address it goes to and its protocol and port
abbrev pub asked_of : Direction → NamespacedName → Packet → Slice → Bool
asked_of Ingress v a s = is_of v s && has_address a.src.0 s
asked_of Egress v a s = is_of v s && (has_address a.dst.0 s && has_port a.proto.0 a.dport s)

-- a service that isn't given asks nothing
abbrev pub service_holds : Written → Direction → Option NamespacedName → Packet → Bool
service_holds W d None a = true
service_holds W d (Some v) a = list_any (λ s. asked_of d v a s.1) (maps.entries W.slices)

-- ---- rules

abbrev pub written_matches : Written → Direction → WrittenRule → Packet → Bool
written_matches W d w a = rule_matches W.plain w.plain a && service_holds W d w.service a

-- rules as a packet meets them, each told by its place
abbrev pub met_written : Written → Direction → Packet → (ℕ → Reason) → ℕ → List WrittenRule → List MetRule
met_written W d a why place [] = []
met_written W d a why place (w ∷ ws) =
    record { why = why place; action = w.plain.action; matches = written_matches W d w a }
    ∷ met_written W d a why (suc place) ws

-- the services that rules of a direction name
abbrev pub services_for : Direction → RuleServices → List (Option NamespacedName)
services_for Ingress services = services.ingress
services_for Egress services = services.egress

-- ---- policies and profiles

abbrev pub written_policy : Written → Direction → PolicyId × Policy → List WrittenRule
written_policy W d x = written_rules (rules_of d x.1) (services_for d (services_at W (key.Policy x.0)))

abbrev pub met_written_policy : Written → Direction → Packet → PolicyId × Policy → List MetRule
met_written_policy W d a x = met_written W d a (reason.Policy x.0) 1 (written_policy W d x)

abbrev pub written_tier : Written → Direction → Packet → TierHead × List (PolicyId × Policy) → Tier
written_tier W d a t = record {
  name = t.0.name;
  pass_at_end = passes_at_end (maps.get W.plain.tiers t.0.name);
  rules = flat_map (met_written_policy W d a) t.1;
}

abbrev pub written_tiers : Written → Direction → Endpoint → Packet → List Tier
written_tiers W d e a =
    map (written_tier W d a) (tiers_of (map (λ x. (place_in W.plain.tiers x, x)) (applying W.plain d e)))

abbrev pub written_profile : Written → Direction → List ℕ → Profile → List WrittenRule
written_profile W d name p = written_rules (side_of d p) (services_for d (services_at W (key.Profile name)))

abbrev pub listed_or_missing : Written → Direction → Packet → List ℕ → Option Profile → Listed
listed_or_missing W d a name None = Missing name
listed_or_missing W d a name (Some p) = There (met_written W d a (reason.Profile name) 1 (written_profile W d name p))

abbrev pub written_listed : Written → Direction → Packet → List ℕ → Listed
written_listed W d a name = listed_or_missing W d a name (maps.get W.plain.profiles name)

abbrev pub written_decision : Written → Direction → Endpoint → Packet → Decision
written_decision W d e a =
    tiers_verdict (written_tiers W d e a) (profiles_verdict (map (written_listed W d a) e.profiles))

-- ---- a packet

abbrev pub written_at : Written → Direction → Packet → Option Endpoint → Option Decision
written_at W d a None = None
written_at W d a (Some e) = Some (written_decision W d e a)

-- a packet in state NEW
abbrev pub written_verdict : Written → Packet → Outcome
written_verdict W a =
    both_sides (side_verdict (written_at W Egress a (endpoint_at W.plain a.iface_in)) a.iface_in)
    (side_verdict (written_at W Ingress a (endpoint_at W.plain a.iface_out)) a.iface_out)
