use Rattle.fx_base.proofs.Walk.{IsRest}
use Rattle.fx_label_index.proofs.Told.{HalfSet}
use Rattle.fx_label_index.proofs.telling.set_each.Given as goal

abbrev pub invariant-loop-text : goal.invariant-loop-text
invariant-loop-text g l = record {
  rest : IsRest l.texts l.text-iterator;
  half : HalfSet l.texts l.key l.stands (g.S.MatchSink.pairs l.fn.sink) (g.S.MatchSink.pairs l.sink) l.text-iterator;
}
