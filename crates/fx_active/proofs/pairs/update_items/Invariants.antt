use Rattle.std.proofs.Common.{◌≡◌}
use Rattle.std.specs.Option.{option_copied}
use Rattle.fx_base.specs.Set as set
use Rattle.fx_active.specs.Active.{applies_to}
use Rattle.fx_active.proofs.PairWalk.{IsHalfPaired}
use Rattle.fx_active.proofs.pairs.update_items.Given as goal

abbrev pub invariant-loop-item : goal.invariant-loop-item
invariant-loop-item g l = record {
  half : IsHalfPaired (λ i. set.contains l.items i) (λ i. applies_to l.held.endpoints l.held.matched (option_copied l.after) i) l.id
      (g.S.ActiveSink.pairs l.fn.sink) (g.S.ActiveSink.pairs l.sink) l.items l.item-iterator;
  policies : g.S.ActiveSink.policies l.sink ≡ g.S.ActiveSink.policies l.fn.sink;
  profiles : g.S.ActiveSink.profiles l.sink ≡ g.S.ActiveSink.profiles l.fn.sink;
}
