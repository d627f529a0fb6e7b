use Rattle.std.proofs.Common.{◌≡◌, ◌++◌}
use Rattle.std.specs.List.{flat_map}
use Rattle.std.specs.FinMap as maps
use Rattle.fx_rules.specs.Rules.{direction_of}
use Rattle.fx_dispatch.specs.Differences.{child_delete}
use Rattle.fx_dispatch.proofs.plan.push_deletes.Given as goal

abbrev pub invariant-loop-byte : goal.invariant-loop-byte
invariant-loop-byte l =
    l.deletes ++ flat_map (child_delete (direction_of l.ingress) (maps.entries l.new)) l.byte-iterator
    ≡ l.fn.deletes ++ flat_map (child_delete (direction_of l.ingress) (maps.entries l.new)) (maps.entries l.old)
