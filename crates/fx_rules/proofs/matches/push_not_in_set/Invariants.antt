use Rattle.std.proofs.Common.{◌≡◌, ◌++◌, drop}
use Rattle.fx_model.specs.Rendering.{not_in_set_match}
use Rattle.fx_rules.proofs.matches.push_not_in_set.Given as goal

-- with the sets that are left behind them, the matches are whole
abbrev pub invariant-loop-port : goal.invariant-loop-port
invariant-loop-port l = l.matches ++ not_in_set_match l.end (drop l.port-index l.port-items) ≡ l.fn.matches ++ not_in_set_match l.end l.ports
