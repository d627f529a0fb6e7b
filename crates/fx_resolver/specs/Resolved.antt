-- The ordered lists of each endpoint. From Calico's resource reference (`projectcalico.org/v3`), Tier and GlobalNetworkPolicy: a
-- tier takes part for an endpoint in a direction if some policy of it applies there, and tiers and policies apply in their orders.
-- A policy applies in the directions of its `types`.
use Rattle.std.specs.Prelude.{◌≡◌, ℕ, Bool, ◌&&◌, List, map, filter, Some}
use Rattle.std.specs.FinMap as maps
use Rattle.fx_base.specs.Extended.{collected}
use Rattle.fx_base.specs.Set as set
use Rattle.fx_model.specs.declared.ids.ItemKey.{ItemKey}
use Rattle.fx_model.specs.declared.ids.PolicyId.{PolicyId}
use Rattle.fx_model.specs.declared.tier_order.PolicyPlace.{PolicyPlace}
use Rattle.fx_model.specs.declared.view.ViewTier.{ViewTier}
use Rattle.fx_model.specs.declared.view.ViewEndpoint.{ViewEndpoint}
use Rattle.fx_model.specs.Directions.{Direction, Ingress, Egress}
use Rattle.fx_model.specs.Messages.{Named}
use Rattle.fx_model.specs.TierOrder.{tier_stand, policy_place, tiers_of, view_tier}
use Rattle.fx_model.specs.Views.{namespace_of, item_name}
use Rattle.fx_resolver.specs.declared.inputs.Inputs.{Inputs}
use Rattle.fx_resolver.specs.declared.known.KnownPolicy.{KnownPolicy}
use Rattle.fx_resolver.specs.declared.known.KnownEndpoint.{KnownEndpoint}
use Rattle.fx_resolver.specs.Known.{KnownEndpoints}

abbrev pub is_on : Direction → KnownPolicy → Bool
is_on Ingress p = p.on_ingress
is_on Egress p = p.on_egress

-- whether the policy applies to the item in the direction
abbrev pub applies_to : Inputs → Direction → ItemKey → PolicyId × KnownPolicy → Bool
applies_to n d i x = is_on d x.1 && set.contains n.pairs (x.0, i)

-- the policy's key at its place
abbrev pub key_in_place : Inputs → PolicyId × KnownPolicy → PolicyPlace × List ℕ
key_in_place n x = (policy_place (tier_stand (maps.get n.tiers x.1.tier)) x.1.tier x.1.order x.0, x.1.key)

-- the keys of the policies that apply to an item in a direction, at their places
abbrev pub keys_for : Inputs → Direction → ItemKey → List (PolicyPlace × List ℕ)
keys_for n d i = map (key_in_place n) (filter (applies_to n d i) (maps.entries n.policies))

-- the tiers that take part for an item in a direction
abbrev pub tiers_for : Inputs → Direction → ItemKey → List ViewTier
tiers_for n d i = map view_tier (tiers_of (keys_for n d i))

-- an endpoint with its tiers and its profiles
abbrev pub endpoint_row : Inputs → ItemKey → KnownEndpoint → ViewEndpoint
endpoint_row n i e = record {
  ns = namespace_of i;
  name = item_name i;
  ingress = tiers_for n Ingress i;
  egress = tiers_for n Egress i;
  profiles = e.profiles;
}

abbrev pub endpoint_entry : Inputs → ItemKey × KnownEndpoint → List ℕ × ViewEndpoint
endpoint_entry n x = (x.1.iface, endpoint_row n x.0 x.1)

-- all endpoints by their interfaces
abbrev pub wanted_endpoints : Inputs → Named ViewEndpoint
wanted_endpoints n = collected (map (endpoint_entry n) (maps.entries n.endpoints))

-- the node's relation: its sink has the endpoints that follow from its inputs
abbrev pub IsResolved : Inputs → Named ViewEndpoint → Type 0
IsResolved n endpoints = endpoints ≡ wanted_endpoints n

-- no two endpoints have one interface
abbrev pub HaveOwnInterfaces : KnownEndpoints → Type 0
HaveOwnInterfaces endpoints = (i j : ItemKey) (e f : KnownEndpoint) → maps.get endpoints i ≡ Some e → maps.get endpoints j ≡ Some f → e.iface ≡ f.iface → i ≡ j
