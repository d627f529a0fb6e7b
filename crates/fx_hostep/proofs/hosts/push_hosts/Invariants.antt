use Rattle.std.proofs.Common.{◌≡◌, ◌++◌, filter, true}
use Rattle.std.specs.List.{AllByRecursion, flat_map}
use Rattle.std.specs.FinMap as maps
use Rattle.fx_model.specs.Formed.{is_formed_view_endpoint}
use Rattle.fx_hostep.specs.HostTables.{host_chains, is_host}
use Rattle.fx_hostep.proofs.hosts.push_hosts.Given as goal

-- with those of the host endpoints that are left behind them, the chains are whole
abbrev pub invariant-loop-iface : goal.invariant-loop-iface
invariant-loop-iface l = record {
  formed : AllByRecursion (λ e. is_formed_view_endpoint e ≡ true) l.iface-iterator;
  whole : l.chains ++ flat_map host_chains (filter is_host l.iface-iterator) ≡ l.fn.chains ++ flat_map host_chains (filter is_host (maps.entries l.endpoints));
}
