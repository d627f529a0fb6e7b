use Rattle.std.proofs.Common.{nat_eq, true, cond, ◌&&◌, unwrap_or, ap, ◌∙◌}
use Rattle.std.specs.Cmp.Lexicographic.{pointwise}
use Rattle.std.specs.FinMap as map
use Rattle.fx_base.specs.Set as set
use Rattle.fx_base.specs.Grouped.{has_key}
use Rattle.fx_model.specs.SameIds.{copies_item}
use Rattle.fx_model.proofs.Orders.{item_total}
use Rattle.fx_active.specs.Steps.{same_item}
use Rattle.fx_active.proofs.KeysByText.{key_added}
use Rattle.fx_active.proofs.here.Here.insert.Goals as goal

pub returns : goal.returns
returns c = λ t i.
    let text = c.args.text.now in
    let item = c.args.item.now in
    key_added item_total c.self.inside.by_text c.insert-2.new.self text item c.unwrap_or-items.result
    (c.unwrap_or-items.ensures ∙ (λ j. unwrap_or (c.remove.ensures.before j) (c.new.ensures j)))
    (c.in_ok-insert-2.ensures.ok
    ∙ (λ j. map.insert (c.remove.ensures.removed j) (c.in_ok-clone-2.ensures.cases j) (c.in_ok-insert.ensures.ok j))
    ∙ (λ j. map.insert (map.remove c.self.inside.by_text text) text (set.insert c.unwrap_or-items.result (copies_item _ _ c.in_ok-clone.ensures.cases j)))) t i
    ∙ ap (λ n. cond (pointwise nat_eq text t && same_item i item) true (has_key (map.get n t) i)) c.self.view_is
