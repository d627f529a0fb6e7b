use Rattle.std.proofs.Common.{◌≡◌, ◌+◌, ◌++◌, drop}
use Rattle.fx_services.specs.Lowering.{written_rules, places_from}
use Rattle.fx_services.proofs.lowering.places_of.Given as goal

-- with the places of the rules that are left behind them, the places are all
abbrev pub invariant-loop-i : goal.invariant-loop-i
invariant-loop-i l =
    l.places.items ++ places_from l.direction (l.i + 1) (written_rules (drop l.i l.rules) l.left)
    ≡ places_from l.direction 1 (written_rules l.rules l.fn.services)
