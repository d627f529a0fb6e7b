use Rattle.std.proofs.Common.{subst, sym}
use Rattle.fx_label_index.specs.Indexed.{AreIndexed}
use Rattle.fx_label_index.specs.Matched.{IsMatched}
use Rattle.fx_label_index.specs.Tested.{IsTested}
use Rattle.fx_label_index.proofs.Replaced.{inputs_then}
use Rattle.fx_label_index.proofs.index.LabelIndex.put_item.Goals as goal

pub put_item-requires-clause-indexed : goal.put_item-requires-clause-indexed
put_item-requires-clause-indexed g c = subst AreIndexed (sym c.replace-state.ensures.value) c.self.invariant

pub put_item-requires-clause-matched : goal.put_item-requires-clause-matched
put_item-requires-clause-matched g c = subst (λ n. IsMatched n (g.S.MatchSink.pairs c.args.sink.now)) (sym (inputs_then c.self.view_is c.replace-state.ensures.value)) c.requires

pub returns-clause-tests : goal.returns-clause-tests
returns-clause-tests g c =
    subst (λ n. IsTested n c.put_item.new.self.inputs (g.T.Ticker.number c.args.ticks.now) (g.T.Ticker.number c.put_item.new.ticks))
    (inputs_then c.self.view_is c.replace-state.ensures.value) c.in_ok-put_item.ensures.tests
