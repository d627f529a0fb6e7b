use Rattle.std.proofs.Common.{cond, sym, ap, ◌∙◌}
use Rattle.fx_base.specs.Set as set
use Rattle.fx_base.proofs.SetAt.{contains_insert, contains_remove}
use Rattle.fx_model.specs.SameIds.{copies_item}
use Rattle.fx_model.proofs.Orders.{item_total}
use Rattle.fx_label_rows.specs.Labelled.{same_item}
use Rattle.fx_label_rows.proofs.item_sets.set_item.Goals as goal

pub returns-in_ok-insert : goal.returns-in_ok-insert
returns-in_ok-insert c = λ i.
    ap (λ s. set.contains s i) (c.in_ok-insert.ensures.ok ∙ ap (set.insert c.args.items.now) (copies_item _ _ c.in_ok-clone.ensures.cases))
    ∙ contains_insert item_total c.args.items.now c.args.key.now i
    ∙ ap (λ b. cond (same_item i c.args.key.now) b (set.contains c.args.items.now i)) (sym c.if-standing.true)

pub returns-else-standing : goal.returns-else-standing
returns-else-standing c = λ i.
    ap (λ s. set.contains s i) c.remove.ensures.removed
    ∙ contains_remove item_total c.args.items.now c.args.key.now i
    ∙ ap (λ b. cond (same_item i c.args.key.now) b (set.contains c.args.items.now i)) (sym c.if-standing.false)
