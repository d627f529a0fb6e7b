use Rattle.std.proofs.Common.{refl, ◌∙◌}
use Rattle.std.specs.FinMap as map
use Rattle.fx_label_index.proofs.Indexing.{told_of, matched_of}
use Rattle.fx_label_index.proofs.Labelling.{agree_put, labels_unlisted}
use Rattle.fx_label_index.proofs.Walked.{parents_tested}
use Rattle.fx_label_index.proofs.state.State.put_parent.Goals as goal

pub relabel_items-requires-clause-told : goal.relabel_items-requires-clause-told
relabel_items-requires-clause-told g c = told_of c.args.self.now c.args.self.now.inputs (g.S.MatchSink.pairs c.args.sink.now) c.requires.indexed refl c.requires.matched

pub relabel_items-requires-clause-others : goal.relabel_items-requires-clause-others
relabel_items-requires-clause-others g c = λ i none.
    let n = c.args.self.now.inputs in
    c.requires.indexed.labels i
    ∙ labels_unlisted (map.get n.parents) (map.get c.insert.new.self) c.args.name.now
    (agree_put n.parents c.insert.new.self c.args.name.now c.args.labels.now (c.in_ok-insert.ensures.ok ∙ (λ j. map.insert n.parents (c.in_ok-clone.ensures.cases j) (c.in_ok-clone-2.ensures.cases j))))
    (map.get n.items i) none

pub returns-clause-indexed : goal.returns-clause-indexed
returns-clause-indexed g c = record {
  kept = c.in_ok-relabel_items.ensures.kept;
  labels = c.in_ok-relabel_items.ensures.labels;
  listed = c.requires.indexed.listed;
}

pub returns-clause-matched : goal.returns-clause-matched
returns-clause-matched g c = matched_of _ _ (returns-clause-indexed g c) c.in_ok-relabel_items.ensures.told

pub returns-clause-tests : goal.returns-clause-tests
returns-clause-tests g c =
    parents_tested c.args.self.now.inputs c.insert.new.self c.args.self.now.indexes.labels c.requires.indexed.labels (g.T.Ticker.number c.args.ticks.now) (g.T.Ticker.number c.relabel_items.new.ticks) c.in_ok-relabel_items.ensures.tests
