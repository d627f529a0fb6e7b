use Rattle.std.proofs.Common.{◌≡◌, ◌++◌, drop}
use Rattle.std.specs.List.{filter_map}
use Rattle.fx_fields.specs.Nets.{ipv4}
use Rattle.fx_fields.proofs.nets.ipv4_nets.Given as goal

abbrev pub invariant-loop-net : goal.invariant-loop-net
invariant-loop-net l = filter_map ipv4 l.nets ≡ l.found.items ++ filter_map ipv4 (drop l.net-index l.nets)
