use Rattle.std.proofs.Common.{◌≡◌, ◌++◌, drop}
use Rattle.std.specs.List.{flat_map}
use Rattle.fx_rules.specs.Rules.{direction_of}
use Rattle.fx_chains.specs.Parts.{one_tier}
use Rattle.fx_chains.proofs.endpoint.push_tiers.Given as goal

-- with those that are left behind it, the chain is whole
abbrev pub invariant-loop-tier : goal.invariant-loop-tier
invariant-loop-tier l = l.chain ++ flat_map (one_tier (direction_of l.ingress)) (drop l.tier-index l.tier-items) ≡ l.fn.chain ++ flat_map (one_tier (direction_of l.ingress)) l.tiers
