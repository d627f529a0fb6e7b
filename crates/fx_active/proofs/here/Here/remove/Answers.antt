use Rattle.std.proofs.Common.{nat_eq, false, cond, ◌&&◌, IsSome, subst, refl, ap, sym, ◌∙◌}
use Rattle.std.specs.Cmp.Lexicographic.{pointwise}
use Rattle.std.specs.FinMap as map
use Rattle.fx_base.specs.Set as set
use Rattle.fx_base.specs.Grouped.{has_key}
use Rattle.fx_base.proofs.AtKey.{get_insert_same}
use Rattle.fx_model.proofs.Orders.{item_total}
use Rattle.fx_active.specs.Steps.{same_item}
use Rattle.fx_active.proofs.KeysByText.{key_removed, last_removed, key_there}
use Rattle.fx_active.proofs.here.Here.remove.Goals as goal

pub swap-requires : goal.swap-requires
swap-requires c =
    key_there item_total (map.get c.self.inside.by_text c.args.text.now) c.args.item.now
    (ap (λ n. has_key (map.get n c.args.text.now) c.args.item.now) c.self.view_is ∙ c.requires)

pub swap-requires-else-is_empty : goal.swap-requires-else-is_empty
swap-requires-else-is_empty c =
    subst IsSome (sym (ap (λ m. map.get m c.args.text.now) c.swap.ensures.swapped ∙ get_insert_same c.self.inside.by_text c.args.text.now c.new-items.result)) refl

pub returns-then-is_empty : goal.returns-then-is_empty
returns-then-is_empty c = λ t i.
    let text = c.args.text.now in
    let item = c.args.item.now in
    last_removed item_total c.self.inside.by_text c.remove-then-is_empty.new.self text item c.swap.new.value c.swap.ensures.old
    (ap map.entries (sym c.remove.ensures.removed) ∙ c.is_empty.ensures.0 c.if-is_empty.true)
    (c.remove-then-is_empty.ensures.removed ∙ ap (λ m. map.remove m text) (c.swap.ensures.swapped ∙ ap (map.insert c.self.inside.by_text text) c.new-items.ensures)) t i
    ∙ ap (λ n. cond (pointwise nat_eq text t && same_item i item) false (has_key (map.get n t) i)) c.self.view_is

pub returns : goal.returns
returns c = λ t i.
    let text = c.args.text.now in
    let item = c.args.item.now in
    key_removed item_total c.self.inside.by_text c.swap-else-is_empty.new.self text item c.swap.new.value c.swap.ensures.old
    (c.swap-else-is_empty.ensures.swapped
    ∙ (λ j. map.insert (c.swap.ensures.swapped j) text (c.remove.ensures.removed j))
    ∙ (λ j. map.insert (map.insert c.self.inside.by_text text (c.new-items.ensures j)) text (set.remove c.swap.new.value item))) t i
    ∙ ap (λ n. cond (pointwise nat_eq text t && same_item i item) false (has_key (map.get n t) i)) c.self.view_is
