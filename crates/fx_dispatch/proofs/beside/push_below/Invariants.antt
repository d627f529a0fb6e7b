use Rattle.std.proofs.Common.{◌≡◌, ◌++◌, drop, filter}
use Rattle.fx_dispatch.specs.Beside.{is_below}
use Rattle.fx_dispatch.proofs.beside.push_below.Given as goal

abbrev pub invariant-loop-each : goal.invariant-loop-each
invariant-loop-each l = l.below ++ filter (is_below l.name) (drop l.each-index l.all) ≡ l.fn.below ++ filter (is_below l.name) l.all
