use Rattle.std.proofs.Common.{◌≡◌, map, take}
use Rattle.fx_selector.specs.Nodes.{tree}
use Rattle.fx_selector.specs.Rewriting.{rewritten}
use Rattle.fx_selector.proofs.rewriting.+rewriting.Given as goal

abbrev pub invariant-rewrite_all-loop-part : goal.invariant-rewrite_all-loop-part
invariant-rewrite_all-loop-part l = map tree l.nodes.items ≡ map (λ n. rewritten l.prefix l.name (tree n)) (take l.part-index l.parts)
