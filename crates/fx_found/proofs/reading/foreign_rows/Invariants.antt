use Rattle.std.proofs.Common.{◌≡◌, take}
use Rattle.fx_found.specs.Found.{foreign_rows}
use Rattle.fx_found.proofs.reading.foreign_rows.Given as goal

abbrev pub invariant-loop-row : goal.invariant-loop-row
invariant-loop-row l = l.foreign ≡ foreign_rows (take l.row-index l.rows)
