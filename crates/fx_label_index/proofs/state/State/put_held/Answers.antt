use Rattle.std.proofs.Common.{Option, Some, refl, sym, ap, subst}
use Rattle.std.specs.FinMap as map
use Rattle.fx_base.specs.Ticks.{IsTicked}
use Rattle.fx_selector.specs.Truth.{LabelMap}
use Rattle.fx_label_index.specs.Tested.{comes, either, at_labels, IsTested}
use Rattle.fx_label_index.proofs.Sums.{item_tested}
use Rattle.fx_label_index.proofs.Indexing.{told_of, matched_of}
use Rattle.fx_label_index.proofs.Labelling.{effective_put}
use Rattle.fx_label_index.proofs.state.State.put_held.Goals as goal

pub relabel-requires-clause-told : goal.relabel-requires-clause-told
relabel-requires-clause-told g c = told_of c.args.self.now c.args.self.now.inputs (g.S.MatchSink.pairs c.args.sink.now) c.requires.indexed refl c.requires.matched

pub returns-clause-indexed : goal.returns-clause-indexed
returns-clause-indexed g c = record {
  kept = c.in_ok-relabel.ensures.kept;
  labels = effective_put c.args.self.now.indexes.labels (map.get c.args.self.now.inputs.parents) c.args.self.now.inputs.items c.args.key.now c.requires.indexed.labels c.in_ok-after.after c.args.held
      c.relabel.new.self.labels c.relist.new.items (ap Some c.in_ok-after.ensures) c.in_ok-relabel.ensures.labels c.in_ok-relist.ensures.items;
  listed = c.in_ok-relist.ensures.listed;
}

pub returns-clause-matched : goal.returns-clause-matched
returns-clause-matched g c = matched_of _ _ (returns-clause-indexed g c) c.in_ok-relabel.ensures.told

pub returns-clause-tests : goal.returns-clause-tests
returns-clause-tests g c =
    let a = c.args.self.now.inputs in
    subst (λ m. IsTested a (record a { items = m }) (g.T.Ticker.number c.args.ticks.now) (g.T.Ticker.number c.relabel.new.ticks)) (sym c.in_ok-relist.ensures.items)
    (item_tested c.args.self.now.inputs c.args.key.now c.args.held (g.T.Ticker.number c.args.ticks.now) (g.T.Ticker.number c.relabel.new.ticks)
    (subst (λ (p : Option LabelMap × Option LabelMap). IsTicked (at_labels comes c.args.self.now.inputs.selectors p.0 p.1) (at_labels either c.args.self.now.inputs.selectors p.0 p.1) (g.T.Ticker.number c.args.ticks.now) (g.T.Ticker.number c.relabel.new.ticks))
    (λ j. (c.requires.indexed.labels c.args.key.now j, Some (c.in_ok-after.ensures j))) c.in_ok-relabel.ensures.tests))
