use Rattle.std.proofs.Common.{◌≡◌, filter, take}
use Rattle.std.specs.List.{flat_map}
use Rattle.fx_model.specs.Sets.{is_port, ports_at}
use Rattle.fx_model.proofs.contributions.ports_of.Given as goal

abbrev pub invariant-loop-addr : goal.invariant-loop-addr
invariant-loop-addr l = l.members.items ≡ flat_map (ports_at (filter (is_port l.proto l.name) l.endpoint.ports)) (take l.addr-index l.addr-items)
