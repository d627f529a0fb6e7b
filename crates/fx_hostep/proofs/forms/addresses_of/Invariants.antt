use Rattle.std.proofs.Common.{◌≡◌, ◌++◌, drop}
use Rattle.std.specs.List.{filter_map}
use Rattle.fx_hostep.specs.HostForms.{of_ipv4}
use Rattle.fx_hostep.proofs.forms.addresses_of.Given as goal

abbrev pub invariant-loop-host : goal.invariant-loop-host
invariant-loop-host l = filter_map of_ipv4 l.hosts ≡ l.found.items ++ filter_map of_ipv4 (drop l.host-index l.hosts)
