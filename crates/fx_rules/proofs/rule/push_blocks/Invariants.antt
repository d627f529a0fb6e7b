use Rattle.std.proofs.Common.{◌≡◌, ◌++◌}
use Rattle.fx_model.specs.Rendering.{joined}
use Rattle.fx_rules.proofs.rule.push_blocks.Given as goal

-- with the blocks that are left behind it, the chain has all of them
abbrev pub invariant-loop-block : goal.invariant-loop-block
invariant-loop-block l = l.out ++ joined l.block-iterator.rest.items ≡ l.initial.out ++ joined l.initial.block-iterator.rest.items
