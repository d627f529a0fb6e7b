-- What stands at a place in the lists of an item. A place names its policy, so it has that policy's key or nothing.
use Rattle.std.specs.Prelude.{ℕ, Bool, cond, ◌&&◌, List, Option, Some, None}
use Rattle.std.specs.Ordering.{eq_by_cmp}
use Rattle.std.specs.FinMap as maps
use Rattle.fx_base.specs.Set as set
use Rattle.fx_base.specs.Grouped.{same_text}
use Rattle.fx_model.specs.Pairs.{PolicyPairs}
use Rattle.fx_model.specs.declared.ids.ItemKey.{ItemKey}
use Rattle.fx_model.specs.declared.ids.PolicyId.{PolicyId}
use Rattle.fx_model.specs.declared.tier_order.TierStand.{TierStand}
use Rattle.fx_model.specs.declared.tier_order.PolicyPlace.{PolicyPlace}
use Rattle.fx_model.specs.contracts.tier_order.PolicyPlaceOrd.TheImpl as place_cmp
use Rattle.fx_model.specs.Directions.{Direction, Ingress, Egress}
use Rattle.fx_model.specs.TierOrder.{Tiers, tier_stand, policy_place}
use Rattle.fx_resolver.specs.declared.known.KnownPolicy.{KnownPolicy}
use Rattle.fx_resolver.specs.declared.placed.PlacedPolicy.{PlacedPolicy}
use Rattle.fx_resolver.specs.Known.{KnownPolicies}

abbrev pub same_place : PolicyPlace → PolicyPlace → Bool
same_place q r = eq_by_cmp place_cmp.cmp-value.it q r

-- how tiers stand, by their names
abbrev pub TierStands : Type 0
TierStands = List ℕ → TierStand

abbrev pub stands_of : Tiers → TierStands
stands_of tiers name = tier_stand (maps.get tiers name)

-- one tier stands so
abbrev pub with_stand : TierStands → List ℕ → TierStand → TierStands
with_stand orders name at t = cond (same_text t name) at (orders t)

-- a policy whose tier stands so
abbrev pub placed_at : TierStand → PolicyId → KnownPolicy → PlacedPolicy
placed_at at id p = record { place = policy_place at p.tier p.order id; key = p.key; on_ingress = p.on_ingress; on_egress = p.on_egress }

-- a policy that may be absent, at its place
abbrev pub placed : TierStands → PolicyId → Option KnownPolicy → Option PlacedPolicy
placed orders id None = None
placed orders id (Some p) = Some (placed_at (orders p.tier) id p)

abbrev pub is_placed_on : Direction → PlacedPolicy → Bool
is_placed_on Ingress p = p.on_ingress
is_placed_on Egress p = p.on_egress

-- what a policy puts at a place
abbrev pub shown : Direction → Option PlacedPolicy → PolicyPlace → Option (List ℕ)
shown d None q = None
shown d (Some p) q = cond (is_placed_on d p && same_place q p.place) (Some p.key) None

-- what stands at a place for an item: what the policy that the place names puts there, if it applies to the item
abbrev pub at_place : TierStands → KnownPolicies → PolicyPairs → Direction → ItemKey → PolicyPlace → Option (List ℕ)
at_place orders policies pairs d i q = cond (set.contains pairs (q.id, i)) (shown d (placed orders q.id (maps.get policies q.id)) q) None
