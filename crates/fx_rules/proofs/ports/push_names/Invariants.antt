use Rattle.std.proofs.Common.{◌≡◌, ◌++◌, map, drop}
use Rattle.fx_model.specs.Rendering.{InSet, names_of}
use Rattle.fx_rules.specs.Ports.{choice_of}
use Rattle.fx_rules.proofs.ports.push_names.Given as goal

-- with the names that are left behind them, the choices are whole
abbrev pub invariant-loop-port : goal.invariant-loop-port
invariant-loop-port l = map choice_of l.choices ++ map InSet (names_of (drop l.port-index l.port-items)) ≡ map choice_of l.fn.choices ++ map InSet (names_of l.ports)
