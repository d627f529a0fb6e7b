use Rattle.std.proofs.Common.{cond, ◌&&◌, true, is_some, ap, ◌∙◌}
use Rattle.fx_base.specs.Grouped.{same_text}
use Rattle.fx_label_rows.specs.Spots.{stands, at}
use Rattle.fx_base.specs.Set as set
use Rattle.fx_label_index.specs.Tested.{gained}
use Rattle.fx_label_index.proofs.Gaining.{come_tested, gained_fewer, gained_items, told_items}
use Rattle.fx_label_index.proofs.Keeping.{selector_new}
use Rattle.fx_label_index.proofs.Needing.{raised_first}
use Rattle.fx_label_index.proofs.indexes.Indexes.come.Goals as goal

pub returns-clause-kept : goal.returns-clause-kept
returns-clause-kept g c = λ selectors absent kept. record {
  by_label = kept.by_label;
  by_need = raised_first selectors c.args.self.now.by_need c.args.text.now kept.by_need c.args.selector.now c.change.new.self (ap is_some absent)
      (λ s t. c.in_ok-change.ensures s t ∙ ap (λ n. cond (stands n s && same_text t c.args.text.now) true (at c.args.self.now.by_need s t)) c.requirement.ensures);
  texts = selector_new selectors c.args.self.now.labels c.args.self.now.texts c.args.text.now kept.texts c.args.selector.now c.in_ok-items.items c.tell_items.new.rows absent
      c.in_ok-tell_items.ensures.rows c.in_ok-items.ensures.answers;
}

pub returns-clause-tests : goal.returns-clause-tests
returns-clause-tests g c = λ n have.
    come_tested c.args.selector.now n (g.T.Ticker.number c.args.ticks.now) (g.T.Ticker.number c.items_on.new.ticks) (c.in_ok-items.ensures.ticks n have)

pub returns-clause-gained : goal.returns-clause-gained
returns-clause-gained g c =
    let old = g.S.MatchSink.pairs c.args.sink.now in
    let new = g.S.MatchSink.pairs c.tell_items.new.sink in
    gained_fewer (g.T.Ticker.number c.args.ticks.now) (gained old new) (set.len c.in_ok-items.items) (g.T.Ticker.number c.items_on.new.ticks)
    (gained_items c.args.text.now c.in_ok-items.items old new
    (told_items c.args.text.now c.in_ok-items.items true c.args.self.now.texts c.tell_items.new.rows old new c.requires.told c.in_ok-tell_items.ensures.told c.in_ok-tell_items.ensures.rows))
    c.in_ok-items.ensures.number
