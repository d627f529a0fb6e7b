-- What stands for a rule that names a service. From Calico's resource reference (`projectcalico.org/v3`, EntityRule)
-- and Kubernetes' EndpointSlice (`discovery.k8s.io/v1`): the source of such a rule is any address of a slice of the
-- service, and its destination is such an address and a port of the slice. A side that names no service means no slice.
use Rattle.std.specs.Prelude.{ℕ, suc, List, [], ◌∷◌, ◌++◌, Bool, true, false, if◌then◌else◌, Option, Some, None, option_map, is_none}
use Rattle.std.specs.List.{flat_map}
use Rattle.fx_base.specs.declared.net.Proto.{Proto}
use Rattle.fx_selector.specs.Tree.{Tree, has, equal, negated, and_of}
use Rattle.fx_model.specs.Criteria.{has_ports}
use Rattle.fx_model.specs.declared.policy.Policy.{Policy}
use Rattle.fx_model.specs.declared.resources.Item.{Item}
use Rattle.fx_model.specs.declared.resources.Item.TheVariants as item
use Rattle.fx_model.specs.declared.resources.Profile.{Profile}
use Rattle.fx_model.specs.declared.resources.Update.{Update}
use Rattle.fx_model.specs.declared.resources.Update.TheVariants as update
use Rattle.fx_model.specs.declared.rules.PortSpec.{PortSpec}
use Rattle.fx_model.specs.declared.rules.PortSpec.TheVariants.{Named}
use Rattle.fx_model.specs.declared.rules.Rule.{Rule}
use Rattle.fx_model.specs.declared.rules.Side.{Side}
use Rattle.fx_fields.specs.declared.names.NamespacedName.{NamespacedName}
use Rattle.fx_fields.specs.declared.policy_fields.PolicyType.{PolicyType}
use Rattle.fx_fields.specs.declared.policy_fields.PolicyType.TheVariants.{Ingress, Egress}
use Rattle.fx_services.specs.declared.lowered.Lowered.{Lowered}
use Rattle.fx_services.specs.declared.services.RuleServices.{RuleServices}
use Rattle.fx_services.specs.Marks.{mark, star, full_name}

-- ---- rules as they are written

-- a rule apart from its service, and the service that it names, if it does
pub record WrittenRule : Type 0 where
  pub plain : Rule
  pub service : Option NamespacedName

abbrev pub first_service : List (Option NamespacedName) → Option NamespacedName
first_service [] = None
first_service (s ∷ ss) = s

abbrev pub later_services : List (Option NamespacedName) → List (Option NamespacedName)
later_services [] = []
later_services (s ∷ ss) = ss

-- rule by rule; where fewer services are listed than rules, the others name none
abbrev pub written_rules : List Rule → List (Option NamespacedName) → List WrittenRule
written_rules [] ss = []
written_rules (r ∷ rs) ss = record { plain = r; service = first_service ss } ∷ written_rules rs (later_services ss)

-- ---- selectors and sides

-- what a selector selects apart from slices
abbrev pub plain_tree : Tree → Tree
plain_tree t = and_of (t ∷ negated (has mark) ∷ [])

abbrev pub plain_side : Side → Side
plain_side s =
    record s { selector = option_map plain_tree s.selector; not_selector = option_map plain_tree s.not_selector }

-- the slices of a service
abbrev pub of_service : NamespacedName → Tree
of_service v = equal mark (full_name v.ns v.name)

-- ---- rules

abbrev pub plain_rule : Rule → Rule
plain_rule r = record r { source = plain_side r.source; destination = plain_side r.destination }

-- packets from addresses of a service
abbrev pub from_service : NamespacedName → Rule → Rule
from_service v r = record (plain_rule r) { source = record (plain_side r.source) { selector = Some (of_service v) } }

-- packets to addresses of a service
abbrev pub to_addresses : NamespacedName → Rule → Rule
to_addresses v r =
    record (plain_rule r) { destination = record (plain_side r.destination) { selector = Some (of_service v) } }

-- all ports of slices have one name
abbrev pub service_ports : List PortSpec
service_ports = Named star ∷ []

-- and of this protocol to a port that the slice has
abbrev pub to_ports : Rule → Proto → Rule
to_ports r p = record r { protocol = Some p; destination = record r.destination { ports = service_ports } }

abbrev pub never_met : Rule → Rule
never_met r = record r { never = true }

-- slices have ports of these protocols alone, by IANA's numbers
abbrev pub tcp : Proto
tcp = record { 0 = 6 }

abbrev pub udp : Proto
udp = record { 0 = 17 }

abbrev pub sctp : Proto
sctp = record { 0 = 132 }

abbrev pub for_protocol : Rule → Proto → Rule
for_protocol r p = if has_ports p.0 then to_ports r p else never_met r

-- a rule without a protocol is one for each that slices have ports of
abbrev pub for_protocols : Rule → Option Proto → List Rule
for_protocols r None = to_ports r tcp ∷ to_ports r udp ∷ to_ports r sctp ∷ []
for_protocols r (Some p) = for_protocol r p ∷ []

abbrev pub rules_to_service : NamespacedName → Rule → List Rule
rules_to_service v r = for_protocols (to_addresses v r) r.protocol

abbrev pub rules_for_service : PolicyType → NamespacedName → Rule → List Rule
rules_for_service Ingress v r = from_service v r ∷ []
rules_for_service Egress v r = rules_to_service v r

abbrev pub rules_for : PolicyType → Rule → Option NamespacedName → List Rule
rules_for d r None = plain_rule r ∷ []
rules_for d r (Some v) = rules_for_service d v r

-- the rules that stand for a rule for packets of this direction
abbrev pub lowered_rule : PolicyType → WrittenRule → List Rule
lowered_rule d w = rules_for d w.plain w.service

abbrev pub lowered_rules : PolicyType → List WrittenRule → List Rule
lowered_rules d ws = flat_map (lowered_rule d) ws

-- ---- places

abbrev pub asks_all_protocols : PolicyType → Rule → Option NamespacedName → Bool
asks_all_protocols d r None = false
asks_all_protocols Ingress r (Some v) = false
asks_all_protocols Egress r (Some v) = is_none r.protocol

-- whether three rules stand for it
abbrev pub is_tripled : PolicyType → WrittenRule → Bool
is_tripled d w = asks_all_protocols d w.plain w.service

abbrev pub rule_places : Bool → ℕ → List ℕ
rule_places true place = place ∷ place ∷ place ∷ []
rule_places false place = place ∷ []

-- the places as they are written of the rules that stand for rules from this place on
abbrev pub places_from : PolicyType → ℕ → List WrittenRule → List ℕ
places_from d place [] = []
places_from d place (w ∷ ws) = rule_places (is_tripled d w) place ++ places_from d (suc place) ws

-- ---- resources

abbrev pub ingress_of : RuleServices → List Rule → List WrittenRule
ingress_of services rules = written_rules rules services.ingress

abbrev pub egress_of : RuleServices → List Rule → List WrittenRule
egress_of services rules = written_rules rules services.egress

abbrev pub lowered_policy : RuleServices → Policy → Policy
lowered_policy services p = record p {
  ingress = lowered_rules Ingress (ingress_of services p.ingress);
  egress = lowered_rules Egress (egress_of services p.egress);
}

abbrev pub lowered_profile : RuleServices → Profile → Profile
lowered_profile services p = record p {
  ingress = lowered_rules Ingress (ingress_of services p.ingress);
  egress = lowered_rules Egress (egress_of services p.egress);
}

abbrev pub lowered_item : RuleServices → Item → Item
lowered_item services (item.Endpoint e) = item.Endpoint e
lowered_item services (item.Profile p) = item.Profile (lowered_profile services p)
lowered_item services (item.Tier t) = item.Tier t
lowered_item services (item.Policy p) = item.Policy (lowered_policy services p)
lowered_item services (item.NetSet s) = item.NetSet s

-- the update that stands for one whose rules name these services
abbrev pub lowered_update : RuleServices → Update → Update
lowered_update services update.InSync = update.InSync
lowered_update services (update.Put k x) = update.Put k (lowered_item services x)
lowered_update services (update.Delete k) = update.Delete k

-- the places of its rules for packets to endpoints, and for those from them
abbrev pub item_ingress_places : RuleServices → Item → List ℕ
item_ingress_places services (item.Endpoint e) = []
item_ingress_places services (item.Profile p) = places_from Ingress 1 (ingress_of services p.ingress)
item_ingress_places services (item.Tier t) = []
item_ingress_places services (item.Policy p) = places_from Ingress 1 (ingress_of services p.ingress)
item_ingress_places services (item.NetSet s) = []

abbrev pub item_egress_places : RuleServices → Item → List ℕ
item_egress_places services (item.Endpoint e) = []
item_egress_places services (item.Profile p) = places_from Egress 1 (egress_of services p.egress)
item_egress_places services (item.Tier t) = []
item_egress_places services (item.Policy p) = places_from Egress 1 (egress_of services p.egress)
item_egress_places services (item.NetSet s) = []

abbrev pub ingress_places : RuleServices → Update → List ℕ
ingress_places services update.InSync = []
ingress_places services (update.Put k x) = item_ingress_places services x
ingress_places services (update.Delete k) = []

abbrev pub egress_places : RuleServices → Update → List ℕ
egress_places services update.InSync = []
egress_places services (update.Put k x) = item_egress_places services x
egress_places services (update.Delete k) = []

abbrev pub lowered : RuleServices → Update → Lowered
lowered services u = record {
  update = lowered_update services u;
  ingress_places = ingress_places services u;
  egress_places = egress_places services u;
}
