use Rattle.std.proofs.Common.{◌≡◌}
use Rattle.std.specs.Cmp.Lexicographic.{nat_list_cmp_total}
use Rattle.std.specs.FinMap as map
use Rattle.fx_base.proofs.KeyCases.{bytes_exact}
use Rattle.fx_scanner.specs.Scanned.{IsScanned}
use Rattle.fx_graph_view.proofs.Brought.{IsBrought}
use Rattle.fx_graph_view.proofs.Withouts.{without}
use Rattle.fx_graph_view.proofs.scanning.profiles_off.Given as goal

abbrev pub invariant-loop-name : goal.invariant-loop-name
invariant-loop-name g l = record {
  brought : IsBrought nat_list_cmp_total bytes_exact l.touched (map.get l.fn.scanner.profiles) (without l.touched l.fn.scanner.profiles) l.scanner.profiles l.name-iterator;
  policies : l.scanner.policies ≡ l.fn.scanner.policies;
  scanned : IsScanned g.R.DigestRule.digest_of l.scanner (g.S.ViewSink.policies l.sink) (g.S.ViewSink.profiles l.sink) (g.S.UseSink.uses l.sink);
  endpoints : g.S.ViewSink.endpoints l.sink ≡ g.S.ViewSink.endpoints l.fn.sink;
}
