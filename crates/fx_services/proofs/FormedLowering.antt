-- What stands for a formed update that may be lowered is formed.
use Rattle.std.proofs.Common.{◌≡◌, ℕ, List, [], ◌∷◌, ◌++◌, Bool, true, false, not, ◌&&◌, ◌||◌, Option, Some, None, refl}
use Rattle.std.specs.Prelude.{is_some, if◌then◌else◌}
use Rattle.std.specs.List.{list_all}
use Rattle.fx_base.specs.declared.net.Proto.{Proto}
use Rattle.fx_model.specs.Criteria.{has_ports}
use Rattle.fx_model.specs.declared.ids.Key.{Key}
use Rattle.fx_model.specs.declared.resources.Item.{Item}
use Rattle.fx_model.specs.declared.resources.Item.TheVariants as item
use Rattle.fx_model.specs.declared.resources.Update.{Update}
use Rattle.fx_model.specs.declared.resources.Update.TheVariants as update
use Rattle.fx_model.specs.declared.rules.Action.{Action}
use Rattle.fx_model.specs.declared.rules.Rule.{Rule}
use Rattle.fx_model.specs.declared.rules.Side.{Side}
use Rattle.fx_model.specs.Formed.{implies, has_port_protocol, has_icmp_protocol, lists_ports, is_formed_port, is_formed_selector, is_formed_side, has_its_protocol, is_formed_rule, passes, is_formed_profile_rule, is_formed_profile, is_formed_policy, is_formed_key, is_formed_item, is_profile_key, is_policy_key, is_formed, puts_workload_interface}
use Rattle.fx_fields.specs.declared.names.NamespacedName.{NamespacedName}
use Rattle.fx_fields.specs.declared.policy_fields.PolicyType.{PolicyType}
use Rattle.fx_fields.specs.declared.policy_fields.PolicyType.TheVariants.{Ingress, Egress}
use Rattle.fx_fields.proofs.Readings.{both, first_of, second_of}
use Rattle.fx_services.specs.declared.services.RuleServices.{RuleServices}
use Rattle.fx_services.specs.Lowering.{WrittenRule, first_service, later_services, written_rules, plain_side, plain_rule, of_service, from_service, to_addresses, service_ports, to_ports, never_met, tcp, udp, sctp, for_protocols, rules_for, lowered_rule, lowered_rules, ingress_of, egress_of, lowered_item, lowered_update}
use Rattle.fx_services.specs.Lowerable.{is_low, is_other_port, is_lowerable_side, is_lowerable_rule, is_service, asks_nothing, service_side, may_name, is_lowerable, are_lowerable, is_lowerable_update}
use Rattle.fx_services.proofs.ServiceTrees.{plain_selector-formed, of_service-formed}

-- ---- sides

abbrev ports_pass : Side → Bool
ports_pass s = list_all is_formed_port s.ports && list_all is_formed_port s.not_ports

abbrev selectors_pass : Side → Bool
selectors_pass s = is_formed_selector s.selector && is_formed_selector s.not_selector

abbrev are_low : Side → Bool
are_low s = is_low s.selector && is_low s.not_selector

abbrev have_other_ports : Side → Bool
have_other_ports s = list_all is_other_port s.ports && list_all is_other_port s.not_ports

plain_not-formed : (s : Side) → is_formed_side s ≡ true → is_lowerable_side s ≡ true → is_formed_selector (plain_side s).not_selector ≡ true
plain_not-formed s e low =
    plain_selector-formed s.not_selector (second_of (is_formed_selector s.selector) (is_formed_selector s.not_selector) (first_of (selectors_pass s) (ports_pass s) e))
    (second_of (is_low s.selector) (is_low s.not_selector) (first_of (are_low s) (have_other_ports s) low))

plain_side-formed : (s : Side) → is_formed_side s ≡ true → is_lowerable_side s ≡ true → is_formed_side (plain_side s) ≡ true
plain_side-formed s e low =
    both (selectors_pass (plain_side s)) (ports_pass s)
    (both (is_formed_selector (plain_side s).selector) (is_formed_selector (plain_side s).not_selector)
    (plain_selector-formed s.selector (first_of (is_formed_selector s.selector) (is_formed_selector s.not_selector) (first_of (selectors_pass s) (ports_pass s) e))
    (first_of (is_low s.selector) (is_low s.not_selector) (first_of (are_low s) (have_other_ports s) low)))
    (plain_not-formed s e low))
    (second_of (selectors_pass s) (ports_pass s) e)

-- a side that asks for the slices of a service, with ports that are formed
service_side-formed : (v : NamespacedName) → is_service v ≡ true → (s : Side) → is_formed_selector s.not_selector ≡ true → ports_pass s ≡ true → is_formed_side (record s { selector = Some (of_service v) }) ≡ true
service_side-formed v is s e f =
    both (is_formed_selector (Some (of_service v)) && is_formed_selector s.not_selector) (ports_pass s)
    (both (is_formed_selector (Some (of_service v))) (is_formed_selector s.not_selector) (of_service-formed v is) e) f

-- ---- rules

abbrev IsRule : Rule → Type 0
IsRule r = is_formed_rule r ≡ true

module _ (r : Rule) (e : is_formed_rule r ≡ true) (low : is_lowerable_rule r ≡ true) where
  abbrev sides_pass : Bool
  sides_pass = is_formed_side r.source && is_formed_side r.destination

  protocol-formed : has_its_protocol r ≡ true
  protocol-formed = first_of (has_its_protocol r) sides_pass e

  sides-formed : sides_pass ≡ true
  sides-formed = second_of (has_its_protocol r) sides_pass e

  source-formed : is_formed_side r.source ≡ true
  source-formed = first_of (is_formed_side r.source) (is_formed_side r.destination) sides-formed

  destination-formed : is_formed_side r.destination ≡ true
  destination-formed = second_of (is_formed_side r.source) (is_formed_side r.destination) sides-formed

  source-low : is_lowerable_side r.source ≡ true
  source-low = first_of (is_lowerable_side r.source) (is_lowerable_side r.destination) low

  destination-low : is_lowerable_side r.destination ≡ true
  destination-low = second_of (is_lowerable_side r.source) (is_lowerable_side r.destination) low

  plain_source : is_formed_side (plain_side r.source) ≡ true
  plain_source = plain_side-formed r.source source-formed source-low

  plain_destination : is_formed_side (plain_side r.destination) ≡ true
  plain_destination = plain_side-formed r.destination destination-formed destination-low

  plain_rule-formed : IsRule (plain_rule r)
  plain_rule-formed =
      both (has_its_protocol r) (is_formed_side (plain_side r.source) && is_formed_side (plain_side r.destination)) protocol-formed
      (both (is_formed_side (plain_side r.source)) (is_formed_side (plain_side r.destination)) plain_source plain_destination)

  module _ (v : NamespacedName) (is : is_service v ≡ true) where
    from-formed : IsRule (from_service v r)
    from-formed =
        let side : Side = record (plain_side r.source) { selector = Some (of_service v) } in
        both (has_its_protocol r) (is_formed_side side && is_formed_side (plain_side r.destination)) protocol-formed
        (both (is_formed_side side) (is_formed_side (plain_side r.destination))
        (service_side-formed v is (plain_side r.source) (plain_not-formed r.source source-formed source-low) (second_of (selectors_pass r.source) (ports_pass r.source) source-formed))
        plain_destination)

    to-formed : is_formed_side (to_addresses v r).destination ≡ true
    to-formed =
        service_side-formed v is (plain_side r.destination) (plain_not-formed r.destination destination-formed destination-low) (second_of (selectors_pass r.destination) (ports_pass r.destination) destination-formed)

    -- with the name of slices' ports in place of others
    ports-formed : is_formed_side (record (to_addresses v r).destination { ports = service_ports }) ≡ true
    ports-formed =
        let side : Side = record (plain_side r.destination) { ports = service_ports } in
        service_side-formed v is side (plain_not-formed r.destination destination-formed destination-low)
        (both (list_all is_formed_port service_ports) (list_all is_formed_port r.destination.not_ports) refl
        (second_of (list_all is_formed_port r.destination.ports) (list_all is_formed_port r.destination.not_ports) (second_of (selectors_pass r.destination) (ports_pass r.destination) destination-formed)))

    -- a protocol with ports, beside which messages of ICMP may stand as they do
    abbrev MayStand : Proto → Type 0
    MayStand p = (has_ports p.0 ≡ true) × (implies (is_some r.icmp || is_some r.not_icmp) (has_icmp_protocol (Some p)) ≡ true)

    abbrev given : Side
    given = record (to_addresses v r).destination { ports = service_ports }

    to_ports-formed : (p : Proto) → MayStand p → IsRule (to_ports (to_addresses v r) p)
    to_ports-formed p h =
        let made : Rule = to_ports (to_addresses v r) p in
        both (has_its_protocol made) (is_formed_side (plain_side r.source) && is_formed_side given)
        (both (implies (lists_ports made) (has_port_protocol (Some p))) (implies (is_some r.icmp || is_some r.not_icmp) (has_icmp_protocol (Some p)))
        (beside (lists_ports made) h.0) h.1)
        (both (is_formed_side (plain_side r.source)) (is_formed_side given) plain_source ports-formed)
      where
        beside : (l : Bool) → has_ports p.0 ≡ true → implies l (has_port_protocol (Some p)) ≡ true
        beside true g = g
        beside false g = refl

    never-formed : IsRule (never_met (to_addresses v r))
    never-formed =
        both (has_its_protocol r) (is_formed_side (plain_side r.source) && is_formed_side (to_addresses v r).destination) protocol-formed
        (both (is_formed_side (plain_side r.source)) (is_formed_side (to_addresses v r).destination) plain_source to-formed)

    messages : implies (is_some r.icmp || is_some r.not_icmp) (has_icmp_protocol r.protocol) ≡ true
    messages =
        second_of (implies (lists_ports r) (has_port_protocol r.protocol)) (implies (is_some r.icmp || is_some r.not_icmp) (has_icmp_protocol r.protocol)) protocol-formed

    abbrev AreRules : List Rule → Type 0
    AreRules rs = list_all is_formed_rule rs ≡ true

    for-formed : (o : Option Proto) → implies (is_some r.icmp || is_some r.not_icmp) (has_icmp_protocol o) ≡ true → AreRules (for_protocols (to_addresses v r) o)
    for-formed None h =
        both (is_formed_rule (to_ports (to_addresses v r) tcp)) (list_all is_formed_rule (to_ports (to_addresses v r) udp ∷ to_ports (to_addresses v r) sctp ∷ []))
        (to_ports-formed tcp (refl, no_message (is_some r.icmp || is_some r.not_icmp) (has_icmp_protocol (Some tcp)) h))
        (both (is_formed_rule (to_ports (to_addresses v r) udp)) (list_all is_formed_rule (to_ports (to_addresses v r) sctp ∷ []))
        (to_ports-formed udp (refl, no_message (is_some r.icmp || is_some r.not_icmp) (has_icmp_protocol (Some udp)) h))
        (both (is_formed_rule (to_ports (to_addresses v r) sctp)) true
        (to_ports-formed sctp (refl, no_message (is_some r.icmp || is_some r.not_icmp) (has_icmp_protocol (Some sctp)) h)) refl))
      where
        no_message : (m b : Bool) → implies m false ≡ true → implies m b ≡ true
        no_message true b g = cc
        no_message false b g = refl
    for-formed (Some p) h = by (has_ports p.0) refl
      where
        by : (b : Bool) → has_ports p.0 ≡ b → AreRules ((if b then to_ports (to_addresses v r) p else never_met (to_addresses v r)) ∷ [])
        by true g = both (is_formed_rule (to_ports (to_addresses v r) p)) true (to_ports-formed p (g, h)) refl
        by false g = both (is_formed_rule (never_met (to_addresses v r))) true never-formed refl

    service-formed : (d : PolicyType) → AreRules (rules_for d r (Some v))
    service-formed Ingress = both (is_formed_rule (from_service v r)) true from-formed refl
    service-formed Egress = for-formed r.protocol messages

rule-formed : (d : PolicyType) (w : WrittenRule) → is_formed_rule w.plain ≡ true → is_lowerable d w ≡ true → list_all is_formed_rule (lowered_rule d w) ≡ true
rule-formed d w e low = by w.service (second_of (is_lowerable_rule w.plain) (may_name d w.plain w.service) low)
  where
    rule_low : is_lowerable_rule w.plain ≡ true
    rule_low = first_of (is_lowerable_rule w.plain) (may_name d w.plain w.service) low

    by : (o : Option NamespacedName) → may_name d w.plain o ≡ true → list_all is_formed_rule (rules_for d w.plain o) ≡ true
    by None h = both (is_formed_rule (plain_rule w.plain)) true (plain_rule-formed w.plain e rule_low) refl
    by (Some v) h = service-formed w.plain e rule_low v (first_of (is_service v) (asks_nothing (service_side d w.plain)) h) d

-- ---- actions

-- what a test says of the action of a rule holds of those that stand for it
module _ (test : Action → Bool) where
  abbrev acts : Rule → Bool
  acts r = test r.action

  for-acts : (v : NamespacedName) (r : Rule) → acts r ≡ true → (o : Option Proto) → list_all acts (for_protocols (to_addresses v r) o) ≡ true
  for-acts v r e None = both (acts r) (acts r && (acts r && true)) e (both (acts r) (acts r && true) e (both (acts r) true e refl))
  for-acts v r e (Some p) = by (has_ports p.0)
    where
      by : (b : Bool) → list_all acts ((if b then to_ports (to_addresses v r) p else never_met (to_addresses v r)) ∷ []) ≡ true
      by true = both (acts r) true e refl
      by false = both (acts r) true e refl

  rule-acts : (d : PolicyType) (r : Rule) (o : Option NamespacedName) → acts r ≡ true → list_all acts (rules_for d r o) ≡ true
  rule-acts d r None e = both (acts r) true e refl
  rule-acts Ingress r (Some v) e = both (acts r) true e refl
  rule-acts Egress r (Some v) e = for-acts v r e r.protocol

all-both : (p q : Rule → Bool) (rs : List Rule) → list_all p rs ≡ true → list_all q rs ≡ true → list_all (λ r. p r && q r) rs ≡ true
all-both p q [] e f = refl
all-both p q (r ∷ rs) e f =
    both (p r && q r) (list_all (λ x. p x && q x) rs)
    (both (p r) (q r) (first_of (p r) (list_all p rs) e) (first_of (q r) (list_all q rs) f))
    (all-both p q rs (second_of (p r) (list_all p rs) e) (second_of (q r) (list_all q rs) f))

profile_rule-formed : (d : PolicyType) (w : WrittenRule) → is_formed_profile_rule w.plain ≡ true → is_lowerable d w ≡ true → list_all is_formed_profile_rule (lowered_rule d w) ≡ true
profile_rule-formed d w e low =
    all-both is_formed_rule (λ r. not (passes r.action)) (lowered_rule d w)
    (rule-formed d w (first_of (is_formed_rule w.plain) (not (passes w.plain.action)) e) low)
    (rule-acts (λ a. not (passes a)) d w.plain w.service (second_of (is_formed_rule w.plain) (not (passes w.plain.action)) e))

-- ---- lists of rules

-- what holds of each rule's lowered rules holds of those of all
module _ (test : Rule → Bool) (each : (d : PolicyType) (w : WrittenRule) → test w.plain ≡ true → is_lowerable d w ≡ true → list_all test (lowered_rule d w) ≡ true) where
  all-append : (rs qs : List Rule) → list_all test rs ≡ true → list_all test qs ≡ true → list_all test (rs ++ qs) ≡ true
  all-append [] qs e f = f
  all-append (r ∷ rs) qs e f =
      both (test r) (list_all test (rs ++ qs)) (first_of (test r) (list_all test rs) e) (all-append rs qs (second_of (test r) (list_all test rs) e) f)

  rules-formed : (d : PolicyType) (rs : List Rule) (ss : List (Option NamespacedName)) → list_all test rs ≡ true → list_all (is_lowerable d) (written_rules rs ss) ≡ true → list_all test (lowered_rules d (written_rules rs ss)) ≡ true
  rules-formed d [] ss e low = refl
  rules-formed d (r ∷ rs) ss e low =
      let w : WrittenRule = record { plain = r; service = first_service ss } in
      let ws = written_rules rs (later_services ss) in
      all-append (lowered_rule d w) (lowered_rules d ws)
      (each d w (first_of (test r) (list_all test rs) e) (first_of (is_lowerable d w) (list_all (is_lowerable d) ws) low))
      (rules-formed d rs (later_services ss) (second_of (test r) (list_all test rs) e) (second_of (is_lowerable d w) (list_all (is_lowerable d) ws) low))

  both-formed : (services : RuleServices) (ingress egress : List Rule) → (list_all test ingress && list_all test egress) ≡ true → are_lowerable services ingress egress ≡ true → (list_all test (lowered_rules Ingress (ingress_of services ingress)) && list_all test (lowered_rules Egress (egress_of services egress))) ≡ true
  both-formed services ingress egress e low =
      let to = list_all (is_lowerable Ingress) (ingress_of services ingress) in
      let from = list_all (is_lowerable Egress) (egress_of services egress) in
      both (list_all test (lowered_rules Ingress (ingress_of services ingress))) (list_all test (lowered_rules Egress (egress_of services egress)))
      (rules-formed Ingress ingress services.ingress (first_of (list_all test ingress) (list_all test egress) e) (first_of to from low))
      (rules-formed Egress egress services.egress (second_of (list_all test ingress) (list_all test egress) e) (second_of to from low))

-- ---- updates

item-formed : (services : RuleServices) (k : Key) (x : Item) → is_formed_item k x ≡ true → is_lowerable_update services (update.Put k x) ≡ true → is_formed_item k (lowered_item services x) ≡ true
item-formed services k (item.Endpoint p) e low = e
item-formed services k (item.Profile p) e low =
    both (is_profile_key k) _ (first_of (is_profile_key k) (is_formed_profile p) e)
    (both-formed is_formed_profile_rule profile_rule-formed services p.ingress p.egress (second_of (is_profile_key k) (is_formed_profile p) e) low)
item-formed services k (item.Tier t) e low = e
item-formed services k (item.Policy p) e low =
    both (is_policy_key k) _ (first_of (is_policy_key k) (is_formed_policy p) e)
    (both-formed is_formed_rule rule-formed services p.ingress p.egress (second_of (is_policy_key k) (is_formed_policy p) e) low)
item-formed services k (item.NetSet s) e low = e

pub lowered-formed : (services : RuleServices) (u : Update) → is_formed u ≡ true → is_lowerable_update services u ≡ true → is_formed (lowered_update services u) ≡ true
lowered-formed services update.InSync e low = refl
lowered-formed services (update.Put k x) e low =
    both (is_formed_key k) (is_formed_item k (lowered_item services x)) (first_of (is_formed_key k) (is_formed_item k x) e)
    (item-formed services k x (second_of (is_formed_key k) (is_formed_item k x) e) low)
lowered-formed services (update.Delete k) e low = e

-- and it is for the same interfaces
pub lowered-workload : (services : RuleServices) (node : List ℕ) (u : Update) → puts_workload_interface node u ≡ true → puts_workload_interface node (lowered_update services u) ≡ true
lowered-workload services node update.InSync e = refl
lowered-workload services node (update.Put k (item.Endpoint p)) e = e
lowered-workload services node (update.Put k (item.Profile p)) e = refl
lowered-workload services node (update.Put k (item.Tier t)) e = refl
lowered-workload services node (update.Put k (item.Policy p)) e = refl
lowered-workload services node (update.Put k (item.NetSet s)) e = refl
lowered-workload services node (update.Delete k) e = refl
