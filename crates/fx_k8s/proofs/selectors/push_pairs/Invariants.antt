use Rattle.std.proofs.Common.{◌≡◌, ◌++◌, map, take}
use Rattle.fx_k8s.specs.Conversion.{pair_tree}
use Rattle.fx_k8s.proofs.selectors.push_pairs.Given as goal

abbrev pub invariant-loop-pair : goal.invariant-loop-pair
invariant-loop-pair l = l.parts.items ≡ l.fn.parts.items ++ map pair_tree (take l.pair-index l.pairs)
