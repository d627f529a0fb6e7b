use Rattle.std.proofs.Common.{subst, sym}
use Rattle.fx_label_index.specs.Indexed.{AreIndexed}
use Rattle.fx_label_index.specs.Matched.{IsMatched}
use Rattle.fx_label_index.specs.Tested.{IsTested}
use Rattle.fx_label_index.proofs.Replaced.{inputs_then}
use Rattle.fx_label_index.proofs.index.LabelIndex.put_selector.Goals as goal

pub put_selector-requires-clause-indexed : goal.put_selector-requires-clause-indexed
put_selector-requires-clause-indexed g c = subst AreIndexed (sym c.replace-state.ensures.value) c.self.invariant

pub put_selector-requires-clause-matched : goal.put_selector-requires-clause-matched
put_selector-requires-clause-matched g c = subst (λ n. IsMatched n (g.S.MatchSink.pairs c.args.sink.now)) (sym (inputs_then c.self.view_is c.replace-state.ensures.value)) c.requires.matched

pub returns-clause-tests : goal.returns-clause-tests
returns-clause-tests g c =
    subst (λ n. IsTested n c.put_selector.new.self.inputs (g.T.Ticker.number c.args.ticks.now) (g.T.Ticker.number c.put_selector.new.ticks))
    (inputs_then c.self.view_is c.replace-state.ensures.value) c.in_ok-put_selector.ensures.tests
