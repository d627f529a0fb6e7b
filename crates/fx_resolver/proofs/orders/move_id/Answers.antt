use Rattle.std.proofs.Common.{Some, cond, ap, sym, ◌∙◌}
use Rattle.std.specs.FinMap as map
use Rattle.fx_base.specs.Set as set
use Rattle.fx_resolver.specs.Lists.{item_lists, moved}
use Rattle.fx_resolver.specs.Placed.{placed}
use Rattle.fx_resolver.proofs.OrderLemmas.{nowhere}
use Rattle.fx_resolver.proofs.orders.move_id.Goals as goal

pub returns-in_default : goal.returns-in_default
returns-in_default c = λ i.
    nowhere c.args.before c.args.after c.args.id.now (map.get c.args.inputs.now.policies c.args.id.now) (sym c.in_default.ensures)
    (set.contains c.args.inputs.now.pairs (c.args.id.now, i)) (item_lists c.args.lists.now i)

pub returns : goal.returns
returns c = λ i.
    let l = item_lists c.args.lists.now i in
    let id = c.args.id.now in
    c.in_ok-move_in_items.ensures i
    ∙ (λ j. cond (c.items-items.ensures i j) (moved (Some (c.in_ok-from.ensures j)) (Some (c.in_ok-to.ensures j)) l) l)
    ∙ ap (λ o. cond (set.contains c.args.inputs.now.pairs (id, i)) (moved (placed (λ _. c.args.before) id o) (placed (λ _. c.args.after) id o) l) l) c.in-Some.ensures
