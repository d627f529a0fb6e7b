use Rattle.std.proofs.Common.{◌≡◌, map}
use Rattle.std.specs.FinMap as maps
use Rattle.fx_model.specs.TierOrder.{tier_by_tier, view_tier}
use Rattle.fx_model.proofs.TierLemmas.{all_pushed}
use Rattle.fx_model.proofs.tier_order.tiers_in_order.Given as goal

-- with those that are left pushed, the tiers are all
abbrev pub invariant-loop-place : goal.invariant-loop-place
invariant-loop-place l = all_pushed l.tiers.items l.place-iterator ≡ map view_tier (tier_by_tier (maps.entries l.keys))
