use Rattle.std.proofs.Common.{Some, sym, ap, ◌∙◌}
use Rattle.fx_label_index.specs.Tested.{same_labels, gained}
use Rattle.std.specs.FinMap as map
use Rattle.fx_base.specs.Set as set
use Rattle.fx_label_index.specs.Indexed.{met_number}
use Rattle.fx_label_index.proofs.Gaining.{same_tested, gained_still, relabel_tested, gained_ticked, gained_texts, told_texts, held_few}
use Rattle.fx_label_index.proofs.Keeping.{item_put}
use Rattle.fx_label_index.proofs.Labelling.{labels_stay}
use Rattle.fx_label_index.proofs.indexes.Indexes.relabel.Goals as goal

pub returns-then-has_labels-clause-labels : goal.returns-then-has_labels-clause-labels
returns-then-has_labels-clause-labels g c = labels_stay c.args.self.now.labels c.args.key.now c.args.after
    (ap (λ o. same_labels o (Some c.args.after)) (sym c.get.ensures) ∙ sym c.has_labels.ensures ∙ c.if-has_labels.true)

pub returns-clause-kept : goal.returns-clause-kept
returns-clause-kept g c = record {
  by_label = c.in_ok-move_item.ensures.by_label;
  by_need = c.requires.kept.by_need;
  texts = item_put c.args.selectors.now c.args.self.now.labels c.args.self.now.texts c.args.key.now c.requires.kept.texts c.args.after c.in_ok-texts.texts
      c.move_item.new.labels c.tell_item.new.rows c.in_ok-texts.ensures.answers c.in_ok-move_item.ensures.labels c.in_ok-tell_item.ensures.rows;
}

pub returns-then-has_labels-clause-tests : goal.returns-then-has_labels-clause-tests
returns-then-has_labels-clause-tests g c = same_tested c.args.selectors.now c.args.after (map.get c.args.self.now.labels c.args.key.now) (g.T.Ticker.number c.args.ticks.now)
    (ap (λ o. same_labels o (Some c.args.after)) (sym c.get.ensures) ∙ sym c.has_labels.ensures ∙ c.if-has_labels.true)

pub returns-then-has_labels-clause-gained : goal.returns-then-has_labels-clause-gained
returns-then-has_labels-clause-gained g c = gained_still (g.S.MatchSink.pairs c.args.sink.now) (g.T.Ticker.number c.args.ticks.now)

pub returns-clause-tests : goal.returns-clause-tests
returns-clause-tests g c =
    relabel_tested c.args.selectors.now c.args.after (map.get c.args.self.now.labels c.args.key.now) (g.T.Ticker.number c.args.ticks.now) (g.T.Ticker.number c.texts_on.new.ticks)
    (ap (λ o. same_labels o (Some c.args.after)) (sym c.get.ensures) ∙ sym c.has_labels.ensures ∙ c.if-has_labels.false)
    c.in_ok-texts.ensures.ticks

pub returns-clause-gained : goal.returns-clause-gained
returns-clause-gained g c =
    let old = g.S.MatchSink.pairs c.args.sink.now in
    let new = g.S.MatchSink.pairs c.tell_item.new.sink in
    gained_ticked (gained old new) (set.len c.in_ok-texts.texts) (met_number c.args.selectors.now c.args.after) (g.T.Ticker.number c.args.ticks.now) (g.T.Ticker.number c.texts_on.new.ticks)
    (gained_texts c.args.key.now c.in_ok-texts.texts old new
    (told_texts c.args.key.now c.in_ok-texts.texts c.args.self.now.texts c.tell_item.new.rows old new c.requires.told c.in_ok-tell_item.ensures.told c.in_ok-tell_item.ensures.rows))
    (held_few c.args.selectors.now c.args.after c.in_ok-texts.texts c.in_ok-texts.ensures.answers) c.in_ok-texts.ensures.ticks
