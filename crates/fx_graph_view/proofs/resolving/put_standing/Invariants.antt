use Rattle.std.proofs.Common.{◌≡◌}
use Rattle.std.specs.FinMap as map
use Rattle.fx_model.proofs.Orders.{policy_total, exact_policy}
use Rattle.fx_resolver.specs.Resolved.{IsResolved}
use Rattle.fx_graph_view.specs.Knowing.{standing_at}
use Rattle.fx_graph_view.proofs.Brought.{IsBrought}
use Rattle.fx_graph_view.proofs.resolving.put_standing.Given as goal

abbrev pub invariant-loop-id : goal.invariant-loop-id
invariant-loop-id g l = record {
  brought : IsBrought policy_total exact_policy l.touched (map.get l.fn.resolver.policies) (standing_at g.R.DigestRule.digest_of l.policies l.fn.resolver.policies) l.resolver.policies l.id-iterator;
  tiers : l.resolver.tiers ≡ l.fn.resolver.tiers;
  endpoints : l.resolver.endpoints ≡ l.fn.resolver.endpoints;
  pairs : l.resolver.pairs ≡ l.fn.resolver.pairs;
  resolved : IsResolved l.resolver (g.S.ViewSink.endpoints l.sink);
  policies : g.S.ViewSink.policies l.sink ≡ g.S.ViewSink.policies l.fn.sink;
  profiles : g.S.ViewSink.profiles l.sink ≡ g.S.ViewSink.profiles l.fn.sink;
}
