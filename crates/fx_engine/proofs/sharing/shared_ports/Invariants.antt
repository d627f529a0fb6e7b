use Rattle.std.proofs.Common.{◌≡◌, ◌++◌, drop}
use Rattle.fx_engine.proofs.sharing.shared_ports.Given as goal

abbrev pub invariant-loop-port : goal.invariant-loop-port
invariant-loop-port l = l.ports ≡ l.same.items ++ drop l.port-index l.ports
