use Rattle.std.proofs.Common.{sym, ◌∙◌, subst}
use Rattle.std.specs.Option.{option_copied}
use Rattle.fx_resolver.proofs.ListLemmas.{IsHalfMoved, moved_start, moved_next, moved_end}
use Rattle.fx_resolver.proofs.lists.move_in_each.Goals as goal

pub loop-item-init : goal.loop-item-init
loop-item-init c =
    let before = option_copied c.args.before in
    let after = option_copied c.args.after in
    subst (λ es. IsHalfMoved before after c.args.items.now c.args.lists.now c.args.lists.now es) (sym (c.into_iter-item-iterator.ensures.into_iter_gives ∙ c.iter-item-items.ensures))
    (moved_start before after c.args.items.now c.args.lists.now)

pub loop-item-preserved : goal.loop-item-preserved
loop-item-preserved c =
    let before = option_copied c.args.before in
    let after = option_copied c.args.after in
    moved_next before after c.args.items.now c.args.lists.now c.loop-item.lists c.move_in_item.new.lists _ _
    (subst (λ es. IsHalfMoved before after c.args.items.now c.args.lists.now c.loop-item.lists es) c.in-Some.ensures.steps c.loop-item.invariant)
    c.in_ok-move_in_item.ensures

pub returns : goal.returns
returns c =
    let before = option_copied c.args.before in
    let after = option_copied c.args.after in
    moved_end before after c.args.items.now c.args.lists.now c.loop-item.lists
    (subst (λ es. IsHalfMoved before after c.args.items.now c.args.lists.now c.loop-item.lists es) c.in-None.ensures.steps.0 c.loop-item.invariant)
