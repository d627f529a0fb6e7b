use Rattle.std.proofs.Common.{◌≡◌, ◌++◌, map, take}
use Rattle.fx_k8s.specs.Conversion.{expression_tree}
use Rattle.fx_k8s.proofs.selectors.push_expressions.Given as goal

abbrev pub invariant-loop-expression : goal.invariant-loop-expression
invariant-loop-expression l = l.parts.items ≡ l.fn.parts.items ++ map expression_tree (take l.expression-index l.expressions)
