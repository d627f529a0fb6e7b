use Rattle.std.proofs.Common.{◌≤◌, ◌+◌, ◌-◌, ◌^◌, min}
use Rattle.std.specs.FinMap as map
use Rattle.fx_base.proofs.Walk.{IsRest}
use Rattle.fx_label_index.specs.Indexed.{AreKept, AreTold, at_key}
use Rattle.fx_label_index.specs.Tested.{comes, either, gained}
use Rattle.fx_label_index.proofs.Labelling.{HalfLabelled}
use Rattle.fx_label_index.proofs.Walked.{IsWalked}
use Rattle.fx_label_index.proofs.state.relabel_each.Given as goal

abbrev pub invariant-loop-key : goal.invariant-loop-key
invariant-loop-key g l = record {
  kept : AreKept l.inputs.selectors l.indexes;
  told : AreTold (g.S.MatchSink.pairs l.sink) l.indexes.texts;
  rest : IsRest l.items l.key-iterator;
  half : HalfLabelled l.fn.indexes.labels (map.get l.inputs.parents) l.inputs.items l.indexes.labels l.key-iterator;
  walked : IsWalked (at_key comes l.inputs l.fn.indexes.labels) (at_key either l.inputs l.fn.indexes.labels) l.key-iterator (map.entries l.items) (g.T.Ticker.number l.fn.ticks) (g.T.Ticker.number l.ticks);
  gained : min (g.T.Ticker.number l.fn.ticks + gained (g.S.MatchSink.pairs l.fn.sink) (g.S.MatchSink.pairs l.sink)) (2 ^ 64 - 1) ≤ g.T.Ticker.number l.ticks;
}
