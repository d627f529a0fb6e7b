use Rattle.std.proofs.Common.{◌≡◌, drop}
use Rattle.fx_model.specs.Shapes.{are_ordered}
use Rattle.fx_found.proofs.shapes.are_ordered.Given as goal

abbrev pub invariant-loop-each : goal.invariant-loop-each
invariant-loop-each l = are_ordered l.least (drop l.each-index l.matches) ≡ are_ordered 0 l.matches
