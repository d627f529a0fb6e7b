use Rattle.std.proofs.Common.{◌≡◌, ◌++◌, drop}
use Rattle.fx_model.specs.Tables.{policy_jumps}
use Rattle.fx_rules.specs.Rules.{direction_of}
use Rattle.fx_chains.proofs.endpoint.push_policy_jumps.Given as goal

-- with those that are left behind it, the chain is whole
abbrev pub invariant-loop-key : goal.invariant-loop-key
invariant-loop-key l = l.chain ++ policy_jumps (direction_of l.ingress) (drop l.key-index l.key-items) ≡ l.fn.chain ++ policy_jumps (direction_of l.ingress) l.keys
