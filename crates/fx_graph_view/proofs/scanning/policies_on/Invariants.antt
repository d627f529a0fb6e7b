use Rattle.std.proofs.Common.{◌≡◌}
use Rattle.std.specs.FinMap as map
use Rattle.fx_model.proofs.Orders.{policy_total, exact_policy}
use Rattle.fx_scanner.specs.Scanned.{IsScanned}
use Rattle.fx_graph_view.proofs.Brought.{IsBrought}
use Rattle.fx_graph_view.proofs.Withouts.{without}
use Rattle.fx_graph_view.proofs.scanning.policies_on.Given as goal

abbrev pub invariant-loop-id : goal.invariant-loop-id
invariant-loop-id g l = record {
  brought : IsBrought policy_total exact_policy l.touched (without l.touched l.policies) (map.get l.policies) l.scanner.policies l.id-iterator;
  profiles : l.scanner.profiles ≡ l.fn.scanner.profiles;
  scanned : IsScanned g.R.DigestRule.digest_of l.scanner (g.S.ViewSink.policies l.sink) (g.S.ViewSink.profiles l.sink) (g.S.UseSink.uses l.sink);
  endpoints : g.S.ViewSink.endpoints l.sink ≡ g.S.ViewSink.endpoints l.fn.sink;
}
