use Rattle.std.proofs.Common.{◌≡◌, map, take}
use Rattle.fx_model.specs.Views.{view_port}
use Rattle.fx_view_rules.proofs.view_rules.view_ports.Given as goal

abbrev pub invariant-loop-port : goal.invariant-loop-port
invariant-loop-port g l = l.wanted ≡ map (view_port g.R.DigestRule.digest_of l.protocol l.side.selector) (take l.port-index l.port-items)
