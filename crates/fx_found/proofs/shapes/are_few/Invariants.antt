use Rattle.std.proofs.Common.{◌≡◌, ◌≤◌, ◌+◌, drop}
use Rattle.fx_model.specs.Shapes.{slots}
use Rattle.fx_found.proofs.shapes.are_few.Given as goal

abbrev pub invariant-loop-range : goal.invariant-loop-range
invariant-loop-range l = record {
  counted : l.used + slots (drop l.range-index l.list) ≡ slots l.list;
  few : l.used ≤ 15;
}
