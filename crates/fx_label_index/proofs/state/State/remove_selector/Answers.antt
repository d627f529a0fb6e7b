use Rattle.std.proofs.Common.{refl, sym, ap, ◌∙◌, subst}
use Rattle.std.specs.FinMap as map
use Rattle.fx_label_index.specs.Indexed.{AreKept}
use Rattle.fx_label_index.specs.Matched.{labels_of}
use Rattle.fx_label_index.specs.Tested.{IsTested}
use Rattle.fx_label_index.proofs.Gaining.{gained_none, gone_selector}
use Rattle.fx_label_index.proofs.Sums.{selector_gone_tested}
use Rattle.fx_label_index.proofs.Indexing.{told_of, matched_of}
use Rattle.fx_label_index.proofs.state.State.remove_selector.Goals as goal

pub leave-requires-clause-told : goal.leave-requires-clause-told
leave-requires-clause-told g c = told_of c.args.self.now c.args.self.now.inputs (g.S.MatchSink.pairs c.args.sink.now) c.requires.indexed refl c.requires.matched

pub returns-clause-indexed : goal.returns-clause-indexed
returns-clause-indexed g c = record {
  kept = subst (λ s. AreKept s c.leave.new.indexes) (sym c.in_ok-lower.ensures) c.in_ok-leave.ensures.kept;
  labels = λ i. ap (λ m. map.get m i) c.in_ok-leave.ensures.labels ∙ c.requires.indexed.labels i;
  listed = c.requires.indexed.listed;
}

pub returns-clause-matched : goal.returns-clause-matched
returns-clause-matched g c = matched_of _ _ (returns-clause-indexed g c) c.in_ok-leave.ensures.told

pub returns-clause-tests : goal.returns-clause-tests
returns-clause-tests g c = λ n.
    let a = c.args.self.now.inputs in
    subst (λ s. IsTested a (record a { selectors = s }) n n) (sym c.in_ok-lower.ensures) (selector_gone_tested a c.args.text.now n)

pub returns-clause-gained : goal.returns-clause-gained
returns-clause-gained g c =
    let a = c.args.self.now.inputs in
    gained_none (g.S.MatchSink.pairs c.args.sink.now) (g.S.MatchSink.pairs c.leave.new.sink) (λ p h.
    c.requires.matched p.0 p.1
    ∙ gone_selector a.selectors c.lower.new.self c.args.text.now (labels_of (map.get a.parents) (map.get a.items p.1)) c.in_ok-lower.ensures p.0 (sym (returns-clause-matched g c p.0 p.1) ∙ h))
