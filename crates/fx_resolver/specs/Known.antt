-- What the node knows of policies and endpoints. From Calico's resource reference (`projectcalico.org/v3`), NetworkPolicy and
-- GlobalNetworkPolicy: the fields `tier`, `order` and `types`; and of a policy's rules and selector nothing.
use Rattle.std.specs.Prelude.{ℕ, List}
use Rattle.std.specs.FinMap as maps
use Rattle.fx_model.specs.declared.policy.Policy.{Policy}
use Rattle.fx_model.specs.contracts.ids.ItemKeyOrd.TheImpl as item_cmp
use Rattle.fx_model.specs.contracts.ids.PolicyIdOrd.TheImpl as policy_cmp
use Rattle.fx_resolver.specs.declared.known.KnownPolicy.{KnownPolicy}
use Rattle.fx_resolver.specs.declared.known.KnownEndpoint.{KnownEndpoint}

abbrev pub known_policy : List ℕ → Policy → KnownPolicy
known_policy key p = record { key = key; tier = p.tier; order = p.order; on_ingress = p.on_ingress; on_egress = p.on_egress }

abbrev pub KnownPolicies : Type 0
KnownPolicies = maps.FinMap policy_cmp.cmp-value.it KnownPolicy

abbrev pub KnownEndpoints : Type 0
KnownEndpoints = maps.FinMap item_cmp.cmp-value.it KnownEndpoint
