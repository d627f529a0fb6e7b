use Rattle.std.proofs.Common.{◌≡◌, map, take}
use Rattle.fx_found.specs.Rows.{row_of}
use Rattle.fx_found.proofs.reading.read_rows.Given as goal

abbrev pub invariant-loop-row : goal.invariant-loop-row
invariant-loop-row l = l.read.items ≡ map row_of (take l.row-index l.rows)
