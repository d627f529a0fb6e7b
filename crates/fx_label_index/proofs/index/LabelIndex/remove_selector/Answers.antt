use Rattle.std.proofs.Common.{subst, sym}
use Rattle.fx_label_index.specs.Indexed.{AreIndexed}
use Rattle.fx_label_index.specs.Matched.{IsMatched}
use Rattle.fx_label_index.specs.Tested.{IsTested}
use Rattle.fx_label_index.proofs.Replaced.{inputs_then}
use Rattle.fx_label_index.proofs.index.LabelIndex.remove_selector.Goals as goal

pub remove_selector-requires-clause-indexed : goal.remove_selector-requires-clause-indexed
remove_selector-requires-clause-indexed g c = subst AreIndexed (sym c.replace-state.ensures.value) c.self.invariant

pub remove_selector-requires-clause-matched : goal.remove_selector-requires-clause-matched
remove_selector-requires-clause-matched g c = subst (λ n. IsMatched n (g.S.MatchSink.pairs c.args.sink.now)) (sym (inputs_then c.self.view_is c.replace-state.ensures.value)) c.requires

pub returns-clause-tests : goal.returns-clause-tests
returns-clause-tests g c =
    let ticks = g.T.Ticker.number c.args.ticks.now in
    subst (λ n. IsTested n c.remove_selector.new.self.inputs ticks ticks) (inputs_then c.self.view_is c.replace-state.ensures.value) (c.in_ok-remove_selector.ensures.tests ticks)

pub returns-clause-gained : goal.returns-clause-gained
returns-clause-gained g c = c.in_ok-remove_selector.ensures.gained (g.T.Ticker.number c.args.ticks.now)
