use Rattle.std.proofs.Common.{◌≡◌, take}
use Rattle.fx_found.specs.Found.{headers_of}
use Rattle.fx_found.proofs.chains.headers_of.Given as goal

abbrev pub invariant-loop-row : goal.invariant-loop-row
invariant-loop-row l = l.names.items ≡ headers_of (take l.row-index l.rows)
