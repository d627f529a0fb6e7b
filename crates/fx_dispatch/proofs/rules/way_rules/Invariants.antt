use Rattle.std.proofs.Common.{◌≡◌, ◌++◌, map, drop}
use Rattle.fx_rules.specs.Rules.{direction_of}
use Rattle.fx_dispatch.specs.Ways.{way_rule}
use Rattle.fx_dispatch.proofs.rules.way_rules.Given as goal

abbrev pub invariant-loop-way : goal.invariant-loop-way
invariant-loop-way l =
    l.rules ++ map (way_rule (direction_of l.ingress)) (drop l.way-index l.way-items) ≡ map (way_rule (direction_of l.ingress)) l.ways
