use Rattle.std.proofs.Common.{◌≡◌, ◌++◌}
use Rattle.std.specs.List.{flat_map}
use Rattle.std.specs.FinMap as maps
use Rattle.fx_dispatch.specs.Ways.{branch_ways}
use Rattle.fx_dispatch.proofs.tree.ways_of.Given as goal

abbrev pub invariant-loop-byte : goal.invariant-loop-byte
invariant-loop-byte l = l.ways ++ flat_map (branch_ways l.shared) l.byte-iterator ≡ flat_map (branch_ways l.shared) (maps.entries l.branches)
