use Rattle.std.proofs.Common.{◌≡◌, map, take}
use Rattle.fx_hostep.specs.HostTables.{failsafe_rule}
use Rattle.fx_hostep.proofs.hosts.port_rules.Given as goal

abbrev pub invariant-loop-port : goal.invariant-loop-port
invariant-loop-port l = l.rules ≡ map failsafe_rule (take l.port-index l.ports)
