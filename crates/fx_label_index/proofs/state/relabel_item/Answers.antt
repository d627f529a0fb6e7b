use Rattle.std.proofs.Common.{Some, sym, ap, ◌∙◌, subst}
use Rattle.fx_base.specs.Ticks.{IsTicked}
use Rattle.fx_label_index.specs.Tested.{comes, either, at_labels}
use Rattle.std.specs.FinMap as map
use Rattle.std.specs.Option.{option_copied}
use Rattle.fx_label_index.specs.Matched.{labels_of}
use Rattle.fx_label_index.proofs.Labelling.{the_labels}
use Rattle.fx_label_index.proofs.state.relabel_item.Goals as goal

pub returns-clause-labels : goal.returns-clause-labels
returns-clause-labels g c = λ after is.
    let n = c.args.inputs.now in
    c.in_ok-relabel.ensures.labels
    ∙ ap (map.insert c.args.indexes.now.labels c.args.key.now)
    (the_labels c.in_ok-after.after after (ap Some c.in_ok-after.ensures ∙ ap (labels_of (map.get n.parents)) (sym (ap option_copied c.in-Some.is) ∙ c.get.ensures) ∙ is))

pub returns-clause-tests : goal.returns-clause-tests
returns-clause-tests g c =
    let n = c.args.inputs.now in
    let before = map.get c.args.indexes.now.labels c.args.key.now in
    subst (λ q. IsTicked (at_labels comes n.selectors before q) (at_labels either n.selectors before q) (g.T.Ticker.number c.args.ticks.now) (g.T.Ticker.number c.relabel.new.ticks))
    (ap Some c.in_ok-after.ensures ∙ ap (labels_of (map.get n.parents)) (sym (ap option_copied c.in-Some.is) ∙ c.get.ensures)) c.in_ok-relabel.ensures.tests
