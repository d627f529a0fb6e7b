use Rattle.std.proofs.Common.{sym, ap, ◌∙◌}
use Rattle.fx_label_index.proofs.Gaining.{put_new, put_old, gained_still}
use Rattle.fx_label_index.proofs.Keeping.{absent, selector_again}
use Rattle.fx_label_index.proofs.Needing.{raised_again}
use Rattle.std.specs.FinMap as map
use Rattle.fx_label_index.proofs.state.enter.Goals as goal

pub returns-in_ok-come-clause-kept : goal.returns-in_ok-come-clause-kept
returns-in_ok-come-clause-kept g c = λ _.
    c.in_ok-come.ensures.kept c.args.selectors.now (absent (map.get c.args.selectors.now c.args.text.now) (sym c.contains.ensures ∙ search)) c.requires.kept

pub returns-else-not-contains-clause-kept : goal.returns-else-not-contains-clause-kept
returns-else-not-contains-clause-kept g c = λ one. record {
  by_label = c.requires.kept.by_label;
  by_need = raised_again c.args.selectors.now c.args.indexes.now.by_need c.args.text.now c.requires.kept.by_need c.args.selector.now (sym c.contains.ensures ∙ search) one;
  texts = selector_again c.args.selectors.now c.args.indexes.now.labels c.args.indexes.now.texts c.args.text.now c.requires.kept.texts c.args.selector.now (sym c.contains.ensures ∙ search) one;
}

pub returns-in_ok-come-clause-tests : goal.returns-in_ok-come-clause-tests
returns-in_ok-come-clause-tests g c = λ n same have.
    put_new n c.args.text.now c.args.selector.now (g.T.Ticker.number c.args.ticks.now) (g.T.Ticker.number c.come.new.ticks)
    (ap (λ s. map.contains_key s c.args.text.now) same ∙ sym c.contains.ensures ∙ search) (c.in_ok-come.ensures.tests n have)

pub returns-else-not-contains-clause-tests : goal.returns-else-not-contains-clause-tests
returns-else-not-contains-clause-tests g c = λ n same have.
    put_old n c.args.text.now c.args.selector.now (g.T.Ticker.number c.args.ticks.now) (ap (λ s. map.contains_key s c.args.text.now) same ∙ sym c.contains.ensures ∙ search)

pub returns-else-not-contains-clause-gained : goal.returns-else-not-contains-clause-gained
returns-else-not-contains-clause-gained g c = gained_still (g.S.MatchSink.pairs c.args.sink.now) (g.T.Ticker.number c.args.ticks.now)
