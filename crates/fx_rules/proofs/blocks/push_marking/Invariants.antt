use Rattle.std.proofs.Common.{◌≡◌, ◌++◌, map}
use Rattle.fx_model.specs.Rendering.{plain}
use Rattle.fx_model.specs.declared.chain.Target.TheVariants as target
use Rattle.fx_rules.proofs.blocks.push_marking.Given as goal

-- with the alternatives that are left behind it, the block has all of them
abbrev pub invariant-loop-matches : goal.invariant-loop-matches
invariant-loop-matches l = l.block ++ map (λ ms. plain ms (target.Mark l.value l.mask)) l.matches-iterator.rest.items ≡ l.fn.block ++ map (λ ms. plain ms (target.Mark l.value l.mask)) l.fn.alternatives
