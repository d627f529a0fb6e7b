use Rattle.std.proofs.Common.{◌≡◌, length, Some}
use Rattle.std.specs.FinMap as map
use Rattle.fx_base.specs.Ticks.{ticked}
use Rattle.fx_base.proofs.Walk.{IsRest}
use Rattle.fx_label_index.specs.Matched.{tests}
use Rattle.fx_label_index.proofs.Candidates.{HalfTested}
use Rattle.fx_label_index.proofs.testing.test_texts.Given as goal

abbrev pub invariant-loop-text : goal.invariant-loop-text
invariant-loop-text g l = record {
  rest : IsRest l.fn.candidates l.text-iterator;
  half : HalfTested (λ t. tests (map.get l.fn.selectors t) (Some l.fn.labels)) l.holding l.text-iterator;
  ticks : ticked (length l.text-iterator) (g.T.Ticker.number l.ticks) ≡ ticked (length (map.entries l.fn.candidates)) (g.T.Ticker.number l.fn.ticks);
}
