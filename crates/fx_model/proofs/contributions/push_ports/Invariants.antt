use Rattle.std.proofs.Common.{◌≡◌, ◌++◌, filter, take}
use Rattle.fx_model.specs.Sets.{is_port, ports_at}
use Rattle.fx_model.proofs.contributions.push_ports.Given as goal

abbrev pub invariant-loop-port : goal.invariant-loop-port
invariant-loop-port l = l.members.items ≡ l.fn.members.items ++ ports_at (filter (is_port l.proto l.name) (take l.port-index l.port-items)) l.addr
