use Rattle.std.proofs.Common.{◌≡◌, ◌++◌}
use Rattle.std.specs.FinMap as maps
use Rattle.fx_dispatch.specs.Beside.{ways_above}
use Rattle.fx_dispatch.proofs.tree.push_above.Given as goal

abbrev pub invariant-loop-each : goal.invariant-loop-each
invariant-loop-each l = l.ways ++ ways_above l.shared l.byte l.each-iterator ≡ l.fn.ways ++ ways_above l.shared l.byte (maps.entries l.branches)
