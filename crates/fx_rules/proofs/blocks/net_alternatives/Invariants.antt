use Rattle.std.proofs.Common.{◌≡◌, ◌++◌, map, drop}
use Rattle.fx_model.specs.Rendering.{one_net}
use Rattle.fx_rules.proofs.blocks.net_alternatives.Given as goal

-- with the nets that are left behind them, the alternatives are whole
abbrev pub invariant-loop-net : goal.invariant-loop-net
invariant-loop-net l = l.alternatives ++ map (one_net l.end) (drop l.net-index l.net-items) ≡ map (one_net l.end) l.nets
