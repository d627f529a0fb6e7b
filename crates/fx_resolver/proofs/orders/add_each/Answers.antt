use Rattle.std.proofs.Common.{◌||◌, is_some, ap, sym, ◌∙◌}
use Rattle.std.specs.FinMap as map
use Rattle.fx_base.specs.Set as set
use Rattle.fx_model.specs.SameIds.{copies_item}
use Rattle.fx_model.specs.contracts.ids.ItemKeyOrd.TheImpl.{cmp-value}
use Rattle.fx_resolver.proofs.OrderLemmas.{item_added}
use Rattle.fx_resolver.proofs.orders.add_each.Goals as goal

pub loop-item-init : goal.loop-item-init
loop-item-init c = λ i.
    ap (λ es. is_some (map.find cmp-value.it i es) || set.contains c.args.items.now i) (c.into_iter-item-iterator.ensures.into_iter_gives ∙ c.iter-item-items.ensures)
    ∙ ap (λ o. is_some o || set.contains c.args.items.now i) (sym (map.get-entries c.args.more.now i))

pub loop-item-preserved : goal.loop-item-preserved
loop-item-preserved c = λ i.
    sym (item_added c.loop-item.items c.insert.new.self _ _ (c.in_ok-insert.ensures.ok ∙ ap (λ k. set.insert c.loop-item.items k) (copies_item _ _ c.in_ok-clone.ensures.cases)) i)
    ∙ ap (λ es. is_some (map.find cmp-value.it i es) || set.contains c.loop-item.items i) (sym c.in-Some.ensures.steps)
    ∙ c.loop-item.invariant i
