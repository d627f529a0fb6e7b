use Rattle.std.proofs.Common.{◌≡◌, ◌++◌, drop}
use Rattle.std.specs.List.{flat_map}
use Rattle.fx_rules.specs.Rules.{direction_of}
use Rattle.fx_chains.specs.Parts.{profile_jump}
use Rattle.fx_chains.proofs.endpoint.push_profile_jumps.Given as goal

-- with those that are left behind it, the chain is whole
abbrev pub invariant-loop-key : goal.invariant-loop-key
invariant-loop-key l = l.chain ++ flat_map (profile_jump (direction_of l.ingress)) (drop l.key-index l.key-items) ≡ l.fn.chain ++ flat_map (profile_jump (direction_of l.ingress)) l.keys
