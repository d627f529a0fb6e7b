use Rattle.std.proofs.Common.{◌≡◌, false, sym, ap, ◌∙◌, subst}
use Rattle.std.specs.List.{sum_by}
use Rattle.std.specs.Option.{option_copied}
use Rattle.std.specs.FinMap as map
use Rattle.fx_base.specs.Grouped.{has_key}
use Rattle.fx_base.specs.Set as set
use Rattle.fx_model.specs.declared.ids.ItemKey.{ItemKey}
use Rattle.fx_base.specs.Ticks.{IsTicked}
use Rattle.fx_base.proofs.TickLemmas.{IsTicked-none}
use Rattle.fx_label_index.specs.Indexed.{lists, at_key}
use Rattle.fx_label_index.specs.Tested.{comes, either}
use Rattle.fx_label_index.proofs.Gaining.{gained_still}
use Rattle.fx_label_index.proofs.Labelling.{item_listed}
use Rattle.fx_label_index.proofs.Walked.{over_listed, none_listed}
use Rattle.fx_label_index.proofs.state.relabel_items.Goals as goal

pub relabel_each-requires-clause-there : goal.relabel_each-requires-clause-there
relabel_each-requires-clause-there g c = λ i there.
    item_listed (map.get c.args.inputs.now.items i) c.args.name.now
    (sym (c.requires.listed c.args.name.now i) ∙ ap (λ o. has_key o i) (sym c.get.ensures ∙ ap option_copied c.in-Some.is) ∙ there)

pub relabel_each-requires-clause-others : goal.relabel_each-requires-clause-others
relabel_each-requires-clause-others g c = λ i none.
    c.requires.others i (sym (c.requires.listed c.args.name.now i) ∙ ap (λ o. has_key o i) (sym c.get.ensures ∙ ap option_copied c.in-Some.is) ∙ none)

pub returns-in_default-clause-labels : goal.returns-in_default-clause-labels
returns-in_default-clause-labels g c = λ i.
    c.requires.others i (sym (c.requires.listed c.args.name.now i) ∙ ap (λ o. has_key o i) (sym c.get.ensures ∙ ap option_copied c.in_default.is))

pub returns-in_ok-relabel_each-clause-tests : goal.returns-in_ok-relabel_each-clause-tests
returns-in_ok-relabel_each-clause-tests g c =
    let n = c.args.inputs.now in
    let old = c.args.indexes.now.labels in
    let items = c.in-Some.items.now in
    let start = g.T.Ticker.number c.args.ticks.now in
    let next = g.T.Ticker.number c.relabel_each.new.ticks in
    let are : (i : ItemKey) → set.contains items i ≡ lists (map.get n.items i) c.args.name.now = λ i. sym (ap (λ o. has_key o i) (sym c.get.ensures ∙ ap option_copied c.in-Some.is)) ∙ c.requires.listed c.args.name.now i in
    subst (λ l. IsTicked l (sum_by (λ e. at_key either n old e.0) (map.entries n.items)) start next) (sym (over_listed comes n c.args.name.now old c.requires.others items are))
    (subst (λ h. IsTicked (sum_by (λ e. at_key comes n old e.0) (map.entries items)) h start next) (sym (over_listed either n c.args.name.now old c.requires.others items are)) c.in_ok-relabel_each.ensures.tests)

pub returns-in_default-clause-tests : goal.returns-in_default-clause-tests
returns-in_default-clause-tests g c =
    let n = c.args.inputs.now in
    let old = c.args.indexes.now.labels in
    let start = g.T.Ticker.number c.args.ticks.now in
    let none : (i : ItemKey) → lists (map.get n.items i) c.args.name.now ≡ false = λ i. sym (c.requires.listed c.args.name.now i) ∙ ap (λ o. has_key o i) (sym c.get.ensures ∙ ap option_copied c.in_default.is) in
    subst (λ l. IsTicked l (sum_by (λ e. at_key either n old e.0) (map.entries n.items)) start start) (sym (none_listed comes n c.args.name.now old c.requires.others none))
    (subst (λ h. IsTicked 0 h start start) (sym (none_listed either n c.args.name.now old c.requires.others none)) (IsTicked-none start))

pub returns-in_default-clause-gained : goal.returns-in_default-clause-gained
returns-in_default-clause-gained g c = gained_still (g.S.MatchSink.pairs c.args.sink.now) (g.T.Ticker.number c.args.ticks.now)
