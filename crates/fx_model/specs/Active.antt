-- Which policies apply to which endpoints. From Calico's resource reference (`projectcalico.org/v3`), GlobalNetworkPolicy, `selector`
-- and `types`; Felix's documented calculation graph calls a policy active that applies to some endpoint of the node.
use Rattle.std.specs.Prelude.{Bool, ◌&&◌, ◌||◌, List, filter}
use Rattle.std.specs.List.{list_any}
use Rattle.std.specs.FinMap as maps
use Rattle.fx_selector.specs.Truth.{holds}
use Rattle.fx_model.specs.declared.ids.PolicyId.{PolicyId}
use Rattle.fx_model.specs.declared.policy.Policy.{Policy}
use Rattle.fx_model.specs.declared.resources.Endpoint.{Endpoint}
use Rattle.fx_model.specs.declared.resources.Resources.{Resources}
use Rattle.fx_model.specs.Directions.{Direction, Ingress, Egress}
use Rattle.fx_model.specs.Labels.{effective_labels, of_endpoint}
use Rattle.fx_model.specs.Resources.{served_endpoints}

abbrev pub is_on : Direction → Policy → Bool
is_on Ingress p = p.on_ingress
is_on Egress p = p.on_egress

abbrev pub has_types : Policy → Bool
has_types p = p.on_ingress || p.on_egress

-- the policy selects the endpoint, and the direction is on
abbrev pub applies : Resources → Direction → Policy → Endpoint → Bool
applies R d p e = holds p.selector (effective_labels R (of_endpoint e)) && is_on d p

-- the policies that apply to the endpoint in the direction
abbrev pub applying : Resources → Direction → Endpoint → List (PolicyId × Policy)
applying R d e = filter (λ x. applies R d x.1 e) (maps.entries R.policies)

-- the policy applies to some served endpoint in some direction
abbrev pub is_active : Resources → Policy → Bool
is_active R p = list_any (λ x. applies R Ingress p x.1 || applies R Egress p x.1) (served_endpoints R)

abbrev pub active_policies : Resources → List (PolicyId × Policy)
active_policies R = filter (λ x. is_active R x.1) (maps.entries R.policies)
