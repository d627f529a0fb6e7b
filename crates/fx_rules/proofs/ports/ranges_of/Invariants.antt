use Rattle.std.proofs.Common.{◌≡◌, ◌++◌, drop}
use Rattle.fx_model.specs.Rendering.{ranges_of}
use Rattle.fx_rules.proofs.ports.ranges_of.Given as goal

-- with those that are left behind them, the ranges are whole
abbrev pub invariant-loop-port : goal.invariant-loop-port
invariant-loop-port l = l.ranges ++ ranges_of (drop l.port-index l.port-items) ≡ ranges_of l.ports
