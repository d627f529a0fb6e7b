-- Whether two records are one, field by field.
use Rattle.std.specs.Prelude.{Bool, false, ◌&&◌, nat_eq, ℤ, Option, Some, None}
use Rattle.std.specs.Cmp.Lexicographic.{pointwise}
use Rattle.std.specs.FinMap as map
use Rattle.std.specs.Option.{option_eq}
use Rattle.std.specs.Ordering.{int_eq}
use Rattle.std.specs.Str.{bytes_eq}
use mathlib.Core.Bool.{beq}
use Rattle.fx_base.specs.contracts.net.Ipv4PartialEq.TheImpl as address
use Rattle.fx_base.specs.contracts.net.NetPartialEq.TheImpl as net
use Rattle.fx_selector.specs.SameTree.{same_tree}
use Rattle.fx_selector.specs.Truth.{LabelMap}
use Rattle.fx_model.specs.contracts.resources.EndpointPortPartialEq.TheImpl as port
use Rattle.fx_model.specs.contracts.rules.RulePartialEq.TheImpl as rule
use Rattle.fx_model.specs.declared.policy.NetSet.{NetSet}
use Rattle.fx_model.specs.declared.policy.Policy.{Policy}
use Rattle.fx_model.specs.declared.policy.Tier.{Tier}
use Rattle.fx_model.specs.declared.resources.Endpoint.{Endpoint}
use Rattle.fx_model.specs.declared.resources.Item.{Item}
use Rattle.fx_model.specs.declared.resources.Item.TheVariants as item
use Rattle.fx_model.specs.declared.resources.Profile.{Profile}

abbrev pub same_labels : LabelMap → LabelMap → Bool
same_labels m n =
    pointwise (λ p q. pointwise nat_eq p.0 q.0 && pointwise nat_eq p.1 q.1) (map.entries m) (map.entries n)

abbrev pub same_order : Option ℤ → Option ℤ → Bool
same_order x y = option_eq int_eq x y

abbrev pub same_endpoint : Endpoint → Endpoint → Bool
same_endpoint a b =
    ((((bytes_eq a.node b.node && bytes_eq a.iface b.iface) && same_labels a.labels b.labels)
    && pointwise address.eq-value.it a.addresses b.addresses) && pointwise (pointwise nat_eq) a.profiles b.profiles)
    && pointwise port.eq-value.it a.ports b.ports

abbrev pub same_profile : Profile → Profile → Bool
same_profile a b =
    (same_labels a.labels b.labels && pointwise rule.eq-value.it a.ingress b.ingress)
    && pointwise rule.eq-value.it a.egress b.egress

abbrev pub same_tier : Tier → Tier → Bool
same_tier a b = same_order a.order b.order && beq a.pass_at_end b.pass_at_end

abbrev pub same_policy : Policy → Policy → Bool
same_policy a b =
    (((((bytes_eq a.tier b.tier && same_order a.order b.order) && beq a.on_ingress b.on_ingress)
    && beq a.on_egress b.on_egress) && same_tree a.selector b.selector) && pointwise rule.eq-value.it a.ingress b.ingress)
    && pointwise rule.eq-value.it a.egress b.egress

abbrev pub same_net_set : NetSet → NetSet → Bool
same_net_set a b = same_labels a.labels b.labels && pointwise net.eq-value.it a.nets b.nets

-- records of two kinds are never one
abbrev pub same_item : Item → Item → Bool
same_item (item.Endpoint a) (item.Endpoint b) = same_endpoint a b
same_item (item.Profile a) (item.Profile b) = same_profile a b
same_item (item.Tier a) (item.Tier b) = same_tier a b
same_item (item.Policy a) (item.Policy b) = same_policy a b
same_item (item.NetSet a) (item.NetSet b) = same_net_set a b
same_item a b = false

-- the record that was found is this one
abbrev pub is_record : Option Item → Item → Bool
is_record None x = false
is_record (Some y) x = same_item y x
