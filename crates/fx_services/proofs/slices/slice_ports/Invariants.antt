use Rattle.std.proofs.Common.{◌≡◌, ◌++◌, map, drop}
use Rattle.fx_services.specs.Slices.{named_port}
use Rattle.fx_services.proofs.slices.slice_ports.Given as goal

abbrev pub invariant-loop-port : goal.invariant-loop-port
invariant-loop-port l = map named_port l.ports ≡ l.named.items ++ map named_port (drop l.port-index l.ports)
