use Rattle.std.proofs.Common.{◌≡◌}
use Rattle.fx_active.proofs.TextWalk.{IsHalfTold}
use Rattle.fx_active.proofs.pairs.update_texts.Given as goal

abbrev pub invariant-loop-text : goal.invariant-loop-text
invariant-loop-text g l = record {
  half : IsHalfTold l.held.policies l.held.endpoints l.held.matched l.item l.added (g.S.ActiveSink.policies l.fn.sink) (g.S.ActiveSink.pairs l.fn.sink) l.texts
      (g.S.ActiveSink.policies l.sink) (g.S.ActiveSink.pairs l.sink) l.text-iterator;
  profiles : g.S.ActiveSink.profiles l.sink ≡ g.S.ActiveSink.profiles l.fn.sink;
}
