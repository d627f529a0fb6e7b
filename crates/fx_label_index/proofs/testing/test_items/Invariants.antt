use Rattle.std.proofs.Common.{◌≡◌, length}
use Rattle.std.specs.FinMap as map
use Rattle.fx_base.specs.Ticks.{ticked}
use Rattle.fx_base.proofs.Walk.{IsRest}
use Rattle.fx_label_index.specs.Matched.{holds_on}
use Rattle.fx_label_index.proofs.Candidates.{HalfTested}
use Rattle.fx_label_index.proofs.testing.test_items.Given as goal

abbrev pub invariant-loop-key : goal.invariant-loop-key
invariant-loop-key g l = record {
  rest : IsRest l.fn.candidates l.key-iterator;
  half : HalfTested (λ i. holds_on l.fn.selector (map.get l.fn.labels i)) l.holding l.key-iterator;
  ticks : ticked (length l.key-iterator) (g.T.Ticker.number l.ticks) ≡ ticked (length (map.entries l.fn.candidates)) (g.T.Ticker.number l.fn.ticks);
}
