use Rattle.std.proofs.Common.{unwrap_or, ◌∙◌}
use Rattle.std.specs.Cmp.Lexicographic.{nat_list_cmp_total}
use Rattle.std.specs.FinMap as map
use Rattle.fx_base.specs.Set as set
use Rattle.fx_base.proofs.Keyed.{key_added}
use Rattle.fx_model.specs.SameIds.{copies_item}
use Rattle.fx_model.proofs.Orders.{item_total, exact_item}
use Rattle.fx_members.proofs.groups.add_text.Goals as goal

pub returns : goal.returns
returns c =
    key_added item_total exact_item nat_list_cmp_total c.args.texts.now c.insert-2.new.self c.args.item.now c.args.text.now c.unwrap_or-own.result
    (c.unwrap_or-own.ensures ∙ (λ j. unwrap_or (c.remove.ensures.before j) (c.new.ensures j)))
    (c.in_ok-insert-2.ensures.ok
    ∙ (λ j. map.insert (c.remove.ensures.removed j) (copies_item _ _ c.in_ok-clone-2.ensures.cases j) (c.in_ok-insert.ensures.ok j))
    ∙ (λ j. map.insert (map.remove c.args.texts.now c.args.item.now) c.args.item.now (set.insert c.unwrap_or-own.result (c.in_ok-clone.ensures.cases j))))
