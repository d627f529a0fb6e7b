use Rattle.std.proofs.Common.{sym, ◌∙◌, subst}
use Rattle.fx_resolver.proofs.OrderLemmas.{IsHalfReordered, reordered_start, reordered_next}
use Rattle.fx_resolver.proofs.orders.move_ids.Goals as goal

pub loop-id-init : goal.loop-id-init
loop-id-init c =
    subst (λ es. IsHalfReordered c.args.after c.args.inputs.now.policies c.args.inputs.now.pairs c.args.ids.now c.args.lists.now c.args.lists.now es) (sym (c.into_iter-id-iterator.ensures.into_iter_gives ∙ c.iter-id-items.ensures))
    (reordered_start c.args.before c.args.after c.args.inputs.now.policies c.args.inputs.now.pairs c.args.ids.now c.args.lists.now c.requires)

pub loop-id-preserved : goal.loop-id-preserved
loop-id-preserved c =
    reordered_next c.args.before c.args.after c.args.inputs.now.policies c.args.inputs.now.pairs c.args.ids.now c.args.lists.now c.requires c.loop-id.lists _ _
    (subst (λ es. IsHalfReordered c.args.after c.args.inputs.now.policies c.args.inputs.now.pairs c.args.ids.now c.args.lists.now c.loop-id.lists es) c.in-Some.ensures.steps c.loop-id.invariant)
    c.move_id.new.lists c.in_ok-move_id.ensures

pub returns : goal.returns
returns c =
    (subst (λ es. IsHalfReordered c.args.after c.args.inputs.now.policies c.args.inputs.now.pairs c.args.ids.now c.args.lists.now c.loop-id.lists es) c.in-None.ensures.steps.0 c.loop-id.invariant).at
