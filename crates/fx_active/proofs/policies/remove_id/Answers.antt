use Rattle.std.proofs.Common.{IsSome, subst, refl, ap, sym, ◌∙◌}
use Rattle.std.specs.FinMap as map
use Rattle.fx_base.specs.Set as set
use Rattle.fx_base.proofs.AtKey.{get_insert_same}
use Rattle.fx_model.proofs.Orders.{policy_total}
use Rattle.fx_active.proofs.KeysByText.{key_removed, last_removed}
use Rattle.fx_active.proofs.policies.remove_id.Goals as goal

pub swap-requires-else-is_empty : goal.swap-requires-else-is_empty
swap-requires-else-is_empty c =
    subst IsSome (sym (ap (λ m. map.get m c.args.text.now) c.swap.ensures.swapped ∙ get_insert_same c.args.by_text.now c.args.text.now c.new-ids.result)) refl

pub returns-then-is_empty : goal.returns-then-is_empty
returns-then-is_empty c =
    last_removed policy_total c.args.by_text.now c.remove-then-is_empty.new.self c.args.text.now c.args.id.now c.swap.new.value c.swap.ensures.old
    (ap map.entries (sym c.remove.ensures.removed) ∙ c.is_empty.ensures.0 c.if-is_empty.true)
    (c.remove-then-is_empty.ensures.removed ∙ ap (λ m. map.remove m c.args.text.now) (c.swap.ensures.swapped ∙ ap (map.insert c.args.by_text.now c.args.text.now) c.new-ids.ensures))

pub returns : goal.returns
returns c =
    key_removed policy_total c.args.by_text.now c.swap-else-is_empty.new.self c.args.text.now c.args.id.now c.swap.new.value c.swap.ensures.old
    (c.swap-else-is_empty.ensures.swapped
    ∙ (λ j. map.insert (c.swap.ensures.swapped j) c.args.text.now (c.remove.ensures.removed j))
    ∙ (λ j. map.insert (map.insert c.args.by_text.now c.args.text.now (c.new-ids.ensures j)) c.args.text.now (set.remove c.swap.new.value c.args.id.now)))
