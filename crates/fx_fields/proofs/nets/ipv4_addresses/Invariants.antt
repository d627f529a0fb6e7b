use Rattle.std.proofs.Common.{◌≡◌, ◌++◌, drop}
use Rattle.std.specs.List.{filter_map}
use Rattle.fx_fields.specs.Nets.{host_address}
use Rattle.fx_fields.proofs.nets.ipv4_addresses.Given as goal

abbrev pub invariant-loop-host : goal.invariant-loop-host
invariant-loop-host l = filter_map host_address l.hosts ≡ l.found.items ++ filter_map host_address (drop l.host-index l.hosts)
