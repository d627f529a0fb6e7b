use Rattle.std.proofs.Common.{◌≡◌, ◌++◌, drop, filter}
use Rattle.fx_dispatch.specs.Beside.{is_above}
use Rattle.fx_dispatch.proofs.beside.push_above.Given as goal

abbrev pub invariant-loop-each : goal.invariant-loop-each
invariant-loop-each l = l.above ++ filter (is_above l.name) (drop l.each-index l.all) ≡ l.fn.above ++ filter (is_above l.name) l.all
