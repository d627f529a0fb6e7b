-- `==` tells all rules apart, and a clone is its source.
use Rattle.std.specs.Prelude.{◌≡◌, ℕ, List, true, nat_eq, Option}
use Rattle.std.specs.Cmp.Lexicographic.{pointwise}
use Rattle.fx_base.specs.Same.{same_numbers, same_bytes, same_list, same_truths, same_option, copies_option, both_pass}
use Rattle.fx_base.specs.SameNet.{same_net, same_ports}
use Rattle.fx_selector.specs.Tree.{Tree}
use Rattle.fx_selector.specs.SameTree.{same_tree, one_tree}
use Rattle.fx_base.specs.declared.net.Net.{Net}
use Rattle.fx_base.specs.declared.net.PortRange.{PortRange}
use Rattle.fx_base.specs.declared.net.Proto.{Proto}
use Rattle.fx_base.specs.contracts.net.NetPartialEq.TheImpl as net
use Rattle.fx_base.specs.contracts.net.PortRangePartialEq.TheImpl as ports
use Rattle.fx_base.specs.contracts.net.ProtoPartialEq.TheImpl as proto
use Rattle.fx_model.specs.declared.rules.Action.{Action}
use Rattle.fx_model.specs.declared.rules.Action.TheVariants.{Allow, Deny, Log, Pass}
use Rattle.fx_model.specs.contracts.rules.ActionPartialEq.TheImpl as action
use Rattle.fx_model.specs.declared.rules.Icmp.{Icmp}
use Rattle.fx_model.specs.contracts.rules.IcmpPartialEq.TheImpl as icmp
use Rattle.fx_model.specs.declared.rules.Side.{Side}
use Rattle.fx_model.specs.contracts.rules.SidePartialEq.TheImpl as plain_side
use Rattle.fx_model.specs.contracts.rules.SideClone.TheImpl as plain_side_clone
use Rattle.fx_model.specs.declared.resources.EndpointPort.{EndpointPort}
use Rattle.fx_model.specs.contracts.resources.EndpointPortPartialEq.TheImpl as endpoint_port
use Rattle.fx_model.specs.declared.rules.PortSpec.{PortSpec}
use Rattle.fx_model.specs.declared.rules.PortSpec.TheVariants.{Number, Named as Name}
use Rattle.fx_model.specs.contracts.rules.PortSpecPartialEq.TheImpl as port_spec
use Rattle.fx_model.specs.contracts.rules.PortSpecClone.TheImpl as port_spec_clone
use Rattle.fx_model.specs.declared.rules.Rule.{Rule}
use Rattle.fx_model.specs.contracts.rules.RulePartialEq.TheImpl as plain_rule
use Rattle.fx_model.specs.contracts.rules.RuleClone.TheImpl as plain_rule_clone
use Rattle.fx_model.specs.declared.view_rule.ViewPort.{ViewPort}
use Rattle.fx_model.specs.declared.view_rule.ViewPort.TheVariants.{Range, Named}
use Rattle.fx_model.specs.contracts.view_rule.ViewPortPartialEq.TheImpl as port
use Rattle.fx_model.specs.declared.view_rule.ViewSide.{ViewSide}
use Rattle.fx_model.specs.contracts.view_rule.ViewSidePartialEq.TheImpl as side
use Rattle.fx_model.specs.contracts.view_rule.ViewSideClone.TheImpl as side_clone
use Rattle.fx_model.specs.declared.view_rule.ViewRule.{ViewRule}
use Rattle.fx_model.specs.contracts.view_rule.ViewRulePartialEq.TheImpl as rule
use Rattle.fx_model.specs.contracts.view_rule.ViewRuleClone.TheImpl as rule_clone

pub same_action : (x y : Action) → action.eq-value.it x y ≡ true → x ≡ y
same_action Allow Allow e = λ i. Allow
same_action Deny Deny e = λ i. Deny
same_action Log Log e = λ i. Log
same_action Pass Pass e = λ i. Pass
same_action _ _ e = cc

pub same_proto : (x y : Proto) → proto.eq-value.it x y ≡ true → x ≡ y
same_proto x y e = λ i. record { 0 = same_numbers x.0 y.0 e i }

pub same_icmp : (x y : Icmp) → icmp.eq-value.it x y ≡ true → x ≡ y
same_icmp x y e =
    let p = both_pass _ _ e in
    λ i. record { kind = same_numbers x.kind y.kind p.0 i; code = same_option nat_eq same_numbers x.code y.code p.1 i }

pub same_cidr : (x y : Net) → net.eq-value.it x y ≡ true → x ≡ y
same_cidr x y e =
    let p = both_pass _ _ e in
    same_net x y (λ i. record { 0 = same_numbers x.addr.0 y.addr.0 p.0 i }) (same_numbers x.len y.len p.1)

pub same_range : (x y : PortRange) → ports.eq-value.it x y ≡ true → x ≡ y
same_range x y e =
    let p = both_pass _ _ e in
    same_ports x y (same_numbers x.low y.low p.0) (same_numbers x.high y.high p.1)

pub same_view_port : (x y : ViewPort) → port.eq-value.it x y ≡ true → x ≡ y
same_view_port (Range a) (Range b) e = λ i. Range (same_range a b e i)
same_view_port (Named a) (Named b) e = λ i. Named (same_bytes a b e i)
same_view_port (Range a) (Named b) e = cc
same_view_port (Named a) (Range b) e = cc

pub same_view_side : (x y : ViewSide) → side.eq-value.it x y ≡ true → x ≡ y
same_view_side x y e =
    let p = both_pass _ _ e in
    let q = both_pass _ _ p.1 in
    let r = both_pass _ _ q.1 in
    let s = both_pass _ _ r.1 in
    let t = both_pass _ _ s.1 in
    λ i. record {
      nets = same_list _ same_cidr x.nets y.nets p.0 i;
      not_nets = same_list _ same_cidr x.not_nets y.not_nets q.0 i;
      set = same_option (pointwise nat_eq) same_bytes x.set y.set r.0 i;
      not_set = same_option (pointwise nat_eq) same_bytes x.not_set y.not_set s.0 i;
      ports = same_list _ same_view_port x.ports y.ports t.0 i;
      not_ports = same_list _ same_view_port x.not_ports y.not_ports t.1 i;
    }

pub copies_view_side : (x y : ViewSide) → side_clone.is_clone-value.it x y → y ≡ x
copies_view_side x y h =
    let Set : Option (List ℕ) → Option (List ℕ) → Type 0 = λ p q. side_clone.is_clone-value.it (record x { set = p }) (record y { set = q }) in
    let NotSet : Option (List ℕ) → Option (List ℕ) → Type 0 = λ p q. side_clone.is_clone-value.it (record x { not_set = p }) (record y { not_set = q }) in
    let set = copies_option Set (λ a b g. g.1.1.0) (λ b g. g.1.1.0) (λ a g. g.1.1.0) x.set y.set h in
    let not_set = copies_option NotSet (λ a b g. g.1.1.1.0) (λ b g. g.1.1.1.0) (λ a g. g.1.1.1.0) x.not_set y.not_set h in
    λ i. record { nets = h.0 i; not_nets = h.1.0 i; set = set i; not_set = not_set i; ports = h.1.1.1.1.0 i; not_ports = h.1.1.1.1.1 i }

pub same_view_rule : (x y : ViewRule) → rule.eq-value.it x y ≡ true → x ≡ y
same_view_rule x y e =
    let p = both_pass _ _ e in
    let q = both_pass _ _ p.1 in
    let r = both_pass _ _ q.1 in
    let s = both_pass _ _ r.1 in
    let t = both_pass _ _ s.1 in
    let u = both_pass _ _ t.1 in
    let v = both_pass _ _ u.1 in
    λ i. record {
      action = same_action x.action y.action p.0 i;
      never = same_truths x.never y.never q.0 i;
      protocol = same_option _ same_proto x.protocol y.protocol r.0 i;
      not_protocol = same_option _ same_proto x.not_protocol y.not_protocol s.0 i;
      icmp = same_option _ same_icmp x.icmp y.icmp t.0 i;
      not_icmp = same_option _ same_icmp x.not_icmp y.not_icmp u.0 i;
      source = same_view_side x.source y.source v.0 i;
      destination = same_view_side x.destination y.destination v.1 i;
    }

pub copies_view_rule : (x y : ViewRule) → rule_clone.is_clone-value.it x y → y ≡ x
copies_view_rule x y h =
    let Protocol : Option Proto → Option Proto → Type 0 = λ p q. rule_clone.is_clone-value.it (record x { protocol = p }) (record y { protocol = q }) in
    let NotProtocol : Option Proto → Option Proto → Type 0 = λ p q. rule_clone.is_clone-value.it (record x { not_protocol = p }) (record y { not_protocol = q }) in
    let Message : Option Icmp → Option Icmp → Type 0 = λ p q. rule_clone.is_clone-value.it (record x { icmp = p }) (record y { icmp = q }) in
    let NotMessage : Option Icmp → Option Icmp → Type 0 = λ p q. rule_clone.is_clone-value.it (record x { not_icmp = p }) (record y { not_icmp = q }) in
    let protocol = copies_option Protocol (λ a b g. g.1.1.0) (λ b g. g.1.1.0) (λ a g. g.1.1.0) x.protocol y.protocol h in
    let not_protocol = copies_option NotProtocol (λ a b g. g.1.1.1.0) (λ b g. g.1.1.1.0) (λ a g. g.1.1.1.0) x.not_protocol y.not_protocol h in
    let icmp = copies_option Message (λ a b g. g.1.1.1.1.0) (λ b g. g.1.1.1.1.0) (λ a g. g.1.1.1.1.0) x.icmp y.icmp h in
    let not_icmp = copies_option NotMessage (λ a b g. g.1.1.1.1.1.0) (λ b g. g.1.1.1.1.1.0) (λ a g. g.1.1.1.1.1.0) x.not_icmp y.not_icmp h in
    let source = copies_view_side x.source y.source h.1.1.1.1.1.1.0 in
    let destination = copies_view_side x.destination y.destination h.1.1.1.1.1.1.1 in
    λ i. record {
      action = h.0 i;
      never = h.1.0 i;
      protocol = protocol i;
      not_protocol = not_protocol i;
      icmp = icmp i;
      not_icmp = not_icmp i;
      source = source i;
      destination = destination i;
    }

-- ---- the same of rules as they are read

pub same_port_spec : (x y : PortSpec) → port_spec.eq-value.it x y ≡ true → x ≡ y
same_port_spec (Number a) (Number b) e = λ i. Number (same_range a b e i)
same_port_spec (Name a) (Name b) e = λ i. Name (same_bytes a b e i)
same_port_spec (Number a) (Name b) e = cc
same_port_spec (Name a) (Number b) e = cc

pub copies_port_spec : (x y : PortSpec) → port_spec_clone.is_clone-value.it x y → y ≡ x
copies_port_spec (Number a) (Number b) h = λ i. Number (h i)
copies_port_spec (Name a) (Name b) h = λ i. Name (h i)
copies_port_spec (Number a) (Name b) h = absurd h
copies_port_spec (Name a) (Number b) h = absurd h

pub same_endpoint_port : (x y : EndpointPort) → endpoint_port.eq-value.it x y ≡ true → x ≡ y
same_endpoint_port x y e =
    let p = both_pass _ _ e in
    let q = both_pass _ _ p.1 in
    λ i. record { name = same_bytes x.name y.name p.0 i; proto = same_proto x.proto y.proto q.0 i; number = same_numbers x.number y.number q.1 i }

pub same_side : (x y : Side) → plain_side.eq-value.it x y ≡ true → x ≡ y
same_side x y e =
    let p = both_pass _ _ e in
    let q = both_pass _ _ p.1 in
    let r = both_pass _ _ q.1 in
    let s = both_pass _ _ r.1 in
    let t = both_pass _ _ s.1 in
    λ i. record {
      nets = same_list _ same_cidr x.nets y.nets p.0 i;
      not_nets = same_list _ same_cidr x.not_nets y.not_nets q.0 i;
      selector = same_option same_tree one_tree x.selector y.selector r.0 i;
      not_selector = same_option same_tree one_tree x.not_selector y.not_selector s.0 i;
      ports = same_list _ same_port_spec x.ports y.ports t.0 i;
      not_ports = same_list _ same_port_spec x.not_ports y.not_ports t.1 i;
    }

pub copies_side : (x y : Side) → plain_side_clone.is_clone-value.it x y → y ≡ x
copies_side x y h =
    let Selector : Option Tree → Option Tree → Type 0 = λ p q. plain_side_clone.is_clone-value.it (record x { selector = p }) (record y { selector = q }) in
    let NotSelector : Option Tree → Option Tree → Type 0 = λ p q. plain_side_clone.is_clone-value.it (record x { not_selector = p }) (record y { not_selector = q }) in
    let selector = copies_option Selector (λ a b g. g.1.1.0) (λ b g. g.1.1.0) (λ a g. g.1.1.0) x.selector y.selector h in
    let not_selector = copies_option NotSelector (λ a b g. g.1.1.1.0) (λ b g. g.1.1.1.0) (λ a g. g.1.1.1.0) x.not_selector y.not_selector h in
    λ i. record { nets = h.0 i; not_nets = h.1.0 i; selector = selector i; not_selector = not_selector i; ports = h.1.1.1.1.0 i; not_ports = h.1.1.1.1.1 i }

pub same_rule : (x y : Rule) → plain_rule.eq-value.it x y ≡ true → x ≡ y
same_rule x y e =
    let p = both_pass _ _ e in
    let q = both_pass _ _ p.1 in
    let r = both_pass _ _ q.1 in
    let s = both_pass _ _ r.1 in
    let t = both_pass _ _ s.1 in
    let u = both_pass _ _ t.1 in
    let v = both_pass _ _ u.1 in
    λ i. record {
      action = same_action x.action y.action p.0 i;
      never = same_truths x.never y.never q.0 i;
      protocol = same_option _ same_proto x.protocol y.protocol r.0 i;
      not_protocol = same_option _ same_proto x.not_protocol y.not_protocol s.0 i;
      icmp = same_option _ same_icmp x.icmp y.icmp t.0 i;
      not_icmp = same_option _ same_icmp x.not_icmp y.not_icmp u.0 i;
      source = same_side x.source y.source v.0 i;
      destination = same_side x.destination y.destination v.1 i;
    }

pub copies_rule : (x y : Rule) → plain_rule_clone.is_clone-value.it x y → y ≡ x
copies_rule x y h =
    let Protocol : Option Proto → Option Proto → Type 0 = λ p q. plain_rule_clone.is_clone-value.it (record x { protocol = p }) (record y { protocol = q }) in
    let NotProtocol : Option Proto → Option Proto → Type 0 = λ p q. plain_rule_clone.is_clone-value.it (record x { not_protocol = p }) (record y { not_protocol = q }) in
    let Message : Option Icmp → Option Icmp → Type 0 = λ p q. plain_rule_clone.is_clone-value.it (record x { icmp = p }) (record y { icmp = q }) in
    let NotMessage : Option Icmp → Option Icmp → Type 0 = λ p q. plain_rule_clone.is_clone-value.it (record x { not_icmp = p }) (record y { not_icmp = q }) in
    let protocol = copies_option Protocol (λ a b g. g.1.1.0) (λ b g. g.1.1.0) (λ a g. g.1.1.0) x.protocol y.protocol h in
    let not_protocol = copies_option NotProtocol (λ a b g. g.1.1.1.0) (λ b g. g.1.1.1.0) (λ a g. g.1.1.1.0) x.not_protocol y.not_protocol h in
    let icmp = copies_option Message (λ a b g. g.1.1.1.1.0) (λ b g. g.1.1.1.1.0) (λ a g. g.1.1.1.1.0) x.icmp y.icmp h in
    let not_icmp = copies_option NotMessage (λ a b g. g.1.1.1.1.1.0) (λ b g. g.1.1.1.1.1.0) (λ a g. g.1.1.1.1.1.0) x.not_icmp y.not_icmp h in
    let source = copies_side x.source y.source h.1.1.1.1.1.1.0 in
    let destination = copies_side x.destination y.destination h.1.1.1.1.1.1.1 in
    λ i. record {
      action = h.0 i;
      never = h.1.0 i;
      protocol = protocol i;
      not_protocol = not_protocol i;
      icmp = icmp i;
      not_icmp = not_icmp i;
      source = source i;
      destination = destination i;
    }
