use Rattle.std.proofs.Common.{◌≡◌, ◌++◌, filter, true}
use Rattle.std.specs.List.{AllByRecursion}
use Rattle.std.specs.FinMap as maps
use Rattle.fx_model.specs.Formed.{is_formed_view_endpoint}
use Rattle.fx_rules.specs.Rules.{direction_of}
use Rattle.fx_hostep.specs.HostTables.{is_host, ways_to}
use Rattle.fx_hostep.proofs.ways.root_chain.Given as goal

-- with those to the host endpoints that are left behind them, the rules are whole
abbrev pub invariant-loop-iface : goal.invariant-loop-iface
invariant-loop-iface l = record {
  formed : AllByRecursion (λ e. is_formed_view_endpoint e ≡ true) l.iface-iterator;
  whole : l.rules ++ ways_to (direction_of l.ingress) (filter is_host l.iface-iterator) ≡ ways_to (direction_of l.ingress) (filter is_host (maps.entries l.endpoints));
}
