use Rattle.std.proofs.Common.{◌≡◌}
use Rattle.fx_resolver.specs.Lists.{row_in}
use Rattle.fx_resolver.specs.Rows.{IsToldBut}
use Rattle.fx_resolver.proofs.RowLemmas.{is_left}
use Rattle.fx_resolver.proofs.rows.tell_each.Given as goal

-- all endpoints are told but for those that are left
abbrev pub invariant-loop-item : goal.invariant-loop-item
invariant-loop-item g l = record {
  lists : l.rows.lists ≡ l.fn.rows.lists;
  told : IsToldBut (row_in l.fn.rows.lists) l.endpoints (is_left l.item-iterator) l.rows.told;
  endpoints : g.S.ViewSink.endpoints l.sink ≡ l.rows.told;
  policies : g.S.ViewSink.policies l.sink ≡ g.S.ViewSink.policies l.fn.sink;
  profiles : g.S.ViewSink.profiles l.sink ≡ g.S.ViewSink.profiles l.fn.sink;
}
