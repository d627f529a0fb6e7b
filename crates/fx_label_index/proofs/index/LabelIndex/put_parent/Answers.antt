use Rattle.std.proofs.Common.{subst, sym}
use Rattle.fx_label_index.specs.Indexed.{AreIndexed}
use Rattle.fx_label_index.specs.Matched.{IsMatched}
use Rattle.fx_label_index.specs.Tested.{IsTested}
use Rattle.fx_label_index.proofs.Replaced.{inputs_then}
use Rattle.fx_label_index.proofs.index.LabelIndex.put_parent.Goals as goal

pub put_parent-requires-clause-indexed : goal.put_parent-requires-clause-indexed
put_parent-requires-clause-indexed g c = subst AreIndexed (sym c.replace-state.ensures.value) c.self.invariant

pub put_parent-requires-clause-matched : goal.put_parent-requires-clause-matched
put_parent-requires-clause-matched g c = subst (λ n. IsMatched n (g.S.MatchSink.pairs c.args.sink.now)) (sym (inputs_then c.self.view_is c.replace-state.ensures.value)) c.requires

pub returns-clause-tests : goal.returns-clause-tests
returns-clause-tests g c =
    subst (λ n. IsTested n c.put_parent.new.self.inputs (g.T.Ticker.number c.args.ticks.now) (g.T.Ticker.number c.put_parent.new.ticks))
    (inputs_then c.self.view_is c.replace-state.ensures.value) c.in_ok-put_parent.ensures.tests
