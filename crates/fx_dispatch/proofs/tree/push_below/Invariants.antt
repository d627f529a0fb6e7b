use Rattle.std.proofs.Common.{◌≡◌, ◌++◌}
use Rattle.std.specs.FinMap as maps
use Rattle.fx_dispatch.specs.Beside.{ways_below}
use Rattle.fx_dispatch.proofs.tree.push_below.Given as goal

abbrev pub invariant-loop-each : goal.invariant-loop-each
invariant-loop-each l = l.ways ++ ways_below l.shared l.byte l.each-iterator ≡ l.fn.ways ++ ways_below l.shared l.byte (maps.entries l.branches)
