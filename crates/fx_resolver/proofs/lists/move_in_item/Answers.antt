use Rattle.std.proofs.Common.{◌≡◌, unwrap_or, cond, ap, ◌∙◌}
use Rattle.std.specs.Option.{option_copied}
use Rattle.std.specs.FinMap as map
use Rattle.fx_model.proofs.Orders.{item_total}
use Rattle.fx_resolver.specs.Indexes.{same_item}
use Rattle.fx_resolver.specs.Lists.{item_lists, moved, without, with_policy}
use Rattle.fx_base.proofs.Keyed.{get_removed}
use Rattle.fx_resolver.proofs.ListLemmas.{lists_moved}
use Rattle.fx_resolver.proofs.lists.move_in_item.Goals as goal

pub put_lists-requires : goal.put_lists-requires
put_lists-requires c = ap (λ m. map.get m c.args.item.now) c.remove.ensures.removed ∙ get_removed item_total c.args.lists.now c.args.item.now

pub returns : goal.returns
returns c = λ i.
    let before = option_copied c.args.before in
    let after = option_copied c.args.after in
    let own : c.put.new.self ≡ moved before after (item_lists c.args.lists.now c.args.item.now) =
    c.in_ok-put.ensures ∙ ap (with_policy after) (c.take.ensures ∙ ap (without before) (c.unwrap_or-own.ensures ∙ (λ j. unwrap_or (c.remove.ensures.before j) (c.new.ensures j)))) in
    lists_moved c.args.lists.now c.args.item.now i before after c.put_lists.new.lists
    (c.in_ok-put_lists.ensures i ∙ (λ j. cond (same_item i c.args.item.now) (own j) (item_lists (c.remove.ensures.removed j) i)))
