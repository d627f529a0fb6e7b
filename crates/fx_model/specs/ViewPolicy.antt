-- What a view says of the first packet of a connection: the policy reference read from the view's policies and profiles, as
-- Calico's resource reference (`projectcalico.org/v3`) orders them. It knows no chain, mark or jump.
use Rattle.std.specs.Prelude.{◌≡◌, ℕ, suc, Bool, true, false, not, ◌&&◌, List, [], ◌∷◌, map, Option, Some, None}
use Rattle.std.specs.List.{flat_map, list_any, list_all}
use Rattle.std.specs.FinMap as maps
use Rattle.fx_model.specs.declared.packet.State.TheVariants.{New}
use Rattle.fx_model.specs.declared.packet.Packet.{Packet}
use Rattle.fx_model.specs.declared.packet.Verdict.{Verdict}
use Rattle.fx_model.specs.declared.chain.Reason.{Reason}
use Rattle.fx_model.specs.declared.chain.Reason.TheVariants as reason
use Rattle.fx_model.specs.declared.resources.Resources.{Resources}
use Rattle.fx_model.specs.declared.view.View.{View}
use Rattle.fx_model.specs.declared.view_rule.ViewRule.{ViewRule}
use Rattle.fx_model.specs.declared.view_rule.ViewSide.{ViewSide}
use Rattle.fx_model.specs.declared.view_rule.ViewPort.{ViewPort}
use Rattle.fx_model.specs.declared.view_rule.ViewPort.TheVariants as port
use Rattle.fx_model.specs.declared.chain.End.{End}
use Rattle.fx_model.specs.declared.chain.End.TheVariants.{Source, Dest}
use Rattle.fx_model.specs.declared.view.ViewTier.{ViewTier}
use Rattle.fx_model.specs.declared.view.ViewPolicy.{ViewPolicy}
use Rattle.fx_model.specs.declared.view.ViewProfile.{ViewProfile}
use Rattle.fx_model.specs.declared.view.ViewEndpoint.{ViewEndpoint}
use Rattle.fx_model.specs.Directions.{Direction, Ingress, Egress}
use Rattle.fx_names.specs.Digests.{Digest}
use Rattle.fx_model.specs.Views.{view_of}
use Rattle.fx_model.specs.Claims.{IsClashFree}
use Rattle.fx_model.specs.Closed.{IsClosedView}
use Rattle.fx_model.specs.Tables.{Tables, Sets, policy_side, profile_side, tiers_side}
use Rattle.fx_model.specs.ViewTables.{tables_of}
use Rattle.fx_model.specs.Policy.{MetRule, Tier, Listed, Missing, There, Decision, Outcome, tiers_verdict, profiles_verdict, side_verdict, both_sides, packet_verdict}
use Rattle.fx_model.specs.Machine.{set_holds, Decides}
use Rattle.fx_model.specs.Criteria.{address_at, port_at, proto_is, proto_is_not, lies_in, lies_in_given, holds_port, icmp_is, icmp_is_not}
use Rattle.fx_model.specs.Formed.{is_formed_view_rule, is_formed_view_profile_rule, are_formed, have_workload_interfaces, has_workload_interfaces}

-- a port in a set is one by address, protocol and number
abbrev pub view_port_holds : Sets → End → Packet → ViewPort → Bool
view_port_holds sets end a (port.Range r) = holds_port r a.proto.0 (port_at end a)
view_port_holds sets end a (port.Named name) = set_holds sets end name a

abbrev pub some_view_port : Sets → End → List ViewPort → Packet → Bool
some_view_port sets end ps a = list_any (view_port_holds sets end a) ps

abbrev pub some_view_port_given : Sets → End → List ViewPort → Packet → Bool
some_view_port_given sets end [] a = true
some_view_port_given sets end (p ∷ ps) a = some_view_port sets end (p ∷ ps) a

abbrev pub in_given_set : Sets → End → Option (List ℕ) → Packet → Bool
in_given_set sets end None a = true
in_given_set sets end (Some name) a = set_holds sets end name a

abbrev pub not_in_given_set : Sets → End → Option (List ℕ) → Packet → Bool
not_in_given_set sets end None a = true
not_in_given_set sets end (Some name) a = not (set_holds sets end name a)

abbrev pub view_side_matches : Sets → End → ViewSide → Packet → Bool
view_side_matches sets end s a =
    (lies_in_given s.nets (address_at end a) && not (lies_in s.not_nets (address_at end a)))
    && ((in_given_set sets end s.set a && not_in_given_set sets end s.not_set a)
    && (some_view_port_given sets end s.ports a && not (some_view_port sets end s.not_ports a)))

abbrev pub view_rule_matches : Sets → ViewRule → Packet → Bool
view_rule_matches sets r a =
    not r.never
    && ((proto_is r.protocol a.proto.0 && proto_is_not r.not_protocol a.proto.0)
    && ((icmp_is r.icmp a && icmp_is_not r.not_icmp a)
    && (view_side_matches sets Source r.source a && view_side_matches sets Dest r.destination a)))

abbrev pub met_view_rules : Sets → Packet → (ℕ → Reason) → ℕ → List ViewRule → List MetRule
met_view_rules sets a why place [] = []
met_view_rules sets a why place (r ∷ rs) =
    record { why = why place; action = r.action; matches = view_rule_matches sets r a } ∷ met_view_rules sets a why (suc place) rs

-- a policy that isn't in the view says nothing; a closed view has each that it names
abbrev pub rules_of_policy : Sets → Direction → Packet → Option ViewPolicy → List MetRule
rules_of_policy sets d a None = []
rules_of_policy sets d a (Some p) = met_view_rules sets a (reason.Policy p.id) 1 (policy_side d p)

abbrev pub view_tier : View → Direction → Packet → ViewTier → Tier
view_tier v d a t = record {
  name = t.name;
  pass_at_end = t.pass_at_end;
  rules = flat_map (λ key. rules_of_policy v.sets d a (maps.get v.policies key)) t.policies;
}

abbrev pub missing_or_there : Bool → List ℕ → List MetRule → Listed
missing_or_there true name rules = Missing name
missing_or_there false name rules = There rules

abbrev pub listed_of : Sets → Direction → Packet → Option ViewProfile → Listed
listed_of sets d a None = There []
listed_of sets d a (Some p) = missing_or_there p.missing p.name (met_view_rules sets a (reason.Profile p.name) 1 (profile_side d p))

abbrev pub view_listed : View → Direction → Packet → List ℕ → Listed
view_listed v d a key = listed_of v.sets d a (maps.get v.profiles key)

abbrev pub view_endpoint_verdict : View → Direction → ViewEndpoint → Packet → Decision
view_endpoint_verdict v d e a =
    tiers_verdict (map (view_tier v d a) (tiers_side d e)) (profiles_verdict (map (view_listed v d a) e.profiles))

abbrev pub view_verdict_at : View → Direction → Packet → Option ViewEndpoint → Option Decision
view_verdict_at v d a None = None
view_verdict_at v d a (Some e) = Some (view_endpoint_verdict v d e a)

-- a packet in state NEW
abbrev pub view_verdict : View → Packet → Outcome
view_verdict v a =
    both_sides (side_verdict (view_verdict_at v Egress a (maps.get v.endpoints a.iface_in)) a.iface_in)
    (side_verdict (view_verdict_at v Ingress a (maps.get v.endpoints a.iface_out)) a.iface_out)

-- ---- where the tables say what the policy says

-- the rules of policies and profiles are formed, and no rule of a profile passes
pub record HasFormedRules (v : View) : Type 0 where
  pub policies : (d : Direction) (key : List ℕ) (p : ViewPolicy) → maps.get v.policies key ≡ Some p → list_all is_formed_view_rule (policy_side d p) ≡ true
  pub profiles : (d : Direction) (key : List ℕ) (p : ViewProfile) → maps.get v.profiles key ≡ Some p → list_all is_formed_view_profile_rule (profile_side d p) ≡ true

-- the tables of a closed view give each first packet the view's verdict and reasons
abbrev pub TablesAgree : Type 0
TablesAgree =
    (v : View) (a : Packet) → IsClosedView v → has_workload_interfaces v ≡ true → HasFormedRules v → a.state ≡ New
    → let answer = view_verdict v a in Decides (tables_of v) a answer.verdict answer.egress answer.ingress

-- what resources have that are read and whose updates are let through
pub record IsServable (dg : Digest) (R : Resources) : Type 0 where
  pub formed : are_formed R ≡ true
  pub clash_free : IsClashFree dg R
  pub on_workloads : have_workload_interfaces R ≡ true

-- the tables of servable resources give each first packet the policy reference's verdict and reasons
abbrev pub PolicyIsKept : Type 0
PolicyIsKept =
    (dg : Digest) (R : Resources) (a : Packet) → IsServable dg R → a.state ≡ New
    → let answer = packet_verdict R a in Decides (tables_of (view_of dg R)) a answer.verdict answer.egress answer.ingress

-- for all resources of which these are the tables, by whatever digest, this is the policy reference's answer to a packet in state NEW
abbrev pub IsPolicyAnswer : Tables → Packet → Verdict → Option Reason → Option Reason → Type 0
IsPolicyAnswer tables a v egress ingress =
    (dg : Digest) (R : Resources) → tables ≡ tables_of (view_of dg R) → IsServable dg R → a.state ≡ New
    → let answer = packet_verdict R a in (v ≡ answer.verdict) × (egress ≡ answer.egress) × (ingress ≡ answer.ingress)
