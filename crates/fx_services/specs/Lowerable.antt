-- What holds of rules as they are read, so that others may stand for those that name services: selectors leave a level
-- to spare, no port is asked for by the name of slices' ports, and a side that names a service asks for nothing else.
use Rattle.std.specs.Prelude.{List, Bool, true, not, ◌&&◌, nat_le, Option, Some, None, is_none}
use Rattle.std.specs.List.{list_all}
use Rattle.std.specs.Str.{bytes_eq}
use Rattle.fx_base.specs.Given.{is_given}
use Rattle.fx_selector.specs.Tree.{Tree, height}
use Rattle.fx_model.specs.declared.resources.Item.{Item}
use Rattle.fx_model.specs.declared.resources.Item.TheVariants as item
use Rattle.fx_model.specs.declared.resources.Update.{Update}
use Rattle.fx_model.specs.declared.resources.Update.TheVariants as update
use Rattle.fx_model.specs.declared.rules.PortSpec.{PortSpec}
use Rattle.fx_model.specs.declared.rules.PortSpec.TheVariants.{Number, Named}
use Rattle.fx_model.specs.declared.rules.Rule.{Rule}
use Rattle.fx_model.specs.declared.rules.Side.{Side}
use Rattle.fx_fields.specs.declared.names.NamespacedName.{NamespacedName}
use Rattle.fx_fields.specs.declared.policy_fields.PolicyType.{PolicyType}
use Rattle.fx_fields.specs.declared.policy_fields.PolicyType.TheVariants.{Ingress, Egress}
use Rattle.fx_fields.specs.Forms.{is_name, is_namespace}
use Rattle.fx_services.specs.declared.services.RuleServices.{RuleServices}
use Rattle.fx_services.specs.Marks.{star}
use Rattle.fx_services.specs.Lowering.{WrittenRule, ingress_of, egress_of}

-- ---- rules

-- a selector that may stand beside another within a selector of a rule
abbrev pub is_low : Option Tree → Bool
is_low None = true
is_low (Some t) = nat_le (height t) 138

-- no port that a rule names has the name of slices' ports
abbrev pub is_other_port : PortSpec → Bool
is_other_port (Number range) = true
is_other_port (Named name) = not (bytes_eq name star)

abbrev pub is_lowerable_side : Side → Bool
is_lowerable_side s =
    (is_low s.selector && is_low s.not_selector)
    && (list_all is_other_port s.ports && list_all is_other_port s.not_ports)

abbrev pub is_lowerable_rule : Rule → Bool
is_lowerable_rule r = is_lowerable_side r.source && is_lowerable_side r.destination

abbrev pub is_service : NamespacedName → Bool
is_service v = is_namespace v.ns && is_name v.name

-- nothing is asked that a service says in its place
abbrev pub asks_nothing : Side → Bool
asks_nothing s = is_none s.selector && (not (is_given s.ports) && not (is_given s.not_ports))

-- the side that may name a service
abbrev pub service_side : PolicyType → Rule → Side
service_side Ingress r = r.source
service_side Egress r = r.destination

abbrev pub may_name : PolicyType → Rule → Option NamespacedName → Bool
may_name d r None = true
may_name d r (Some v) = is_service v && asks_nothing (service_side d r)

abbrev pub is_lowerable : PolicyType → WrittenRule → Bool
is_lowerable d w = is_lowerable_rule w.plain && may_name d w.plain w.service

-- ---- resources

abbrev pub are_lowerable : RuleServices → List Rule → List Rule → Bool
are_lowerable services ingress egress =
    list_all (is_lowerable Ingress) (ingress_of services ingress)
    && list_all (is_lowerable Egress) (egress_of services egress)

abbrev pub is_lowerable_item : RuleServices → Item → Bool
is_lowerable_item services (item.Endpoint e) = true
is_lowerable_item services (item.Profile p) = are_lowerable services p.ingress p.egress
is_lowerable_item services (item.Tier t) = true
is_lowerable_item services (item.Policy p) = are_lowerable services p.ingress p.egress
is_lowerable_item services (item.NetSet s) = true

abbrev pub is_lowerable_update : RuleServices → Update → Bool
is_lowerable_update services update.InSync = true
is_lowerable_update services (update.Put k x) = is_lowerable_item services x
is_lowerable_update services (update.Delete k) = true
