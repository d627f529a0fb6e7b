use Rattle.std.proofs.Common.{sym, ap, ◌∙◌}
use Rattle.std.specs.FinMap as map
use Rattle.fx_base.proofs.AtKey.{insert_removed}
use Rattle.fx_label_rows.specs.Labelled.{has_label}
use Rattle.fx_model.specs.SameIds.{copies_item}
use Rattle.fx_model.proofs.Orders.{item_total, exact_item}
use Rattle.fx_label_index.proofs.Staying.{labelled_again}
use Rattle.fx_label_index.proofs.indexes.move_item.Goals as goal

pub put_under-requires : goal.put_under-requires
put_under-requires c = λ k v. c.requires k (v, c.args.key.now) ∙ ap (λ o. has_label o k v) (sym c.remove-before.ensures.before)

pub returns-clause-labels : goal.returns-clause-labels
returns-clause-labels c =
    c.in_ok-insert.ensures.ok ∙ (λ j. map.insert (c.remove-before.ensures.removed j) (copies_item _ _ c.in_ok-clone.ensures.cases j) c.args.after)
    ∙ insert_removed item_total exact_item c.args.labels.now c.args.key.now c.args.after

pub returns-clause-by_label : goal.returns-clause-by_label
returns-clause-by_label c =
    labelled_again c.args.labels.now c.args.by_label.now.by_key c.put_under.new.by_label.by_key c.args.key.now c.args.after c.requires
    c.in_ok-put_under.ensures c.insert.new.self (returns-clause-labels c)
