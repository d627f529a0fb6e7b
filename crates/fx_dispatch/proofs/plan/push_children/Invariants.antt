use Rattle.std.proofs.Common.{◌≡◌, ◌++◌}
use Rattle.std.specs.List.{flat_map}
use Rattle.std.specs.FinMap as maps
use Rattle.fx_rules.specs.Rules.{direction_of}
use Rattle.fx_dispatch.specs.Differences.{child_write}
use Rattle.fx_dispatch.proofs.plan.push_children.Given as goal

abbrev pub invariant-loop-byte : goal.invariant-loop-byte
invariant-loop-byte l =
    l.writes ++ flat_map (child_write (direction_of l.ingress) (maps.entries l.old)) l.byte-iterator
    ≡ l.fn.writes ++ flat_map (child_write (direction_of l.ingress) (maps.entries l.old)) (maps.entries l.new)
