use Rattle.std.proofs.Common.{refl, sym, ap, ◌∙◌, subst}
use Rattle.std.specs.FinMap as map
use Rattle.fx_label_index.specs.Indexed.{AreKept}
use Rattle.fx_label_index.specs.Tested.{IsTested}
use Rattle.fx_label_index.proofs.Sums.{self_tested, then_raised}
use Rattle.fx_label_index.proofs.Indexing.{told_of, matched_of}
use Rattle.fx_label_index.proofs.state.State.put_selector.Goals as goal

pub enter-requires-clause-told : goal.enter-requires-clause-told
enter-requires-clause-told g c = told_of c.args.self.now c.args.self.now.inputs (g.S.MatchSink.pairs c.args.sink.now) c.requires.indexed refl c.requires.matched

pub returns-clause-indexed : goal.returns-clause-indexed
returns-clause-indexed g c = record {
  kept = subst (λ s. AreKept s c.enter.new.indexes) (sym c.in_ok-raise.ensures.raised) (c.in_ok-enter.ensures.kept c.in_ok-raise.ensures.same);
  labels = λ i. ap (λ m. map.get m i) c.in_ok-enter.ensures.labels ∙ c.requires.indexed.labels i;
  listed = c.requires.indexed.listed;
}

pub returns-clause-matched : goal.returns-clause-matched
returns-clause-matched g c = matched_of _ _ (returns-clause-indexed g c) c.in_ok-enter.ensures.told

pub returns-clause-tests : goal.returns-clause-tests
returns-clause-tests g c =
    let n = c.args.self.now.inputs in
    let start = g.T.Ticker.number c.args.ticks.now in
    let next = g.T.Ticker.number c.enter.new.ticks in
    subst (λ s. IsTested n (record n { selectors = s }) start next) (sym c.in_ok-raise.ensures.raised)
    (then_raised n n c.args.text.now c.args.selector.now start start next (self_tested n start) (λ h. h) c.in_ok-raise.ensures.same (c.in_ok-enter.ensures.tests n refl c.requires.indexed.labels))
