use Rattle.std.proofs.Common.{◌≡◌, ◌||◌, is_some}
use Rattle.std.specs.FinMap as map
use Rattle.fx_base.specs.Set as set
use Rattle.fx_model.specs.declared.ids.ItemKey.{ItemKey}
use Rattle.fx_model.specs.contracts.ids.ItemKeyOrd.TheImpl.{cmp-value}
use Rattle.fx_resolver.proofs.orders.add_each.Given as goal

abbrev pub invariant-loop-item : goal.invariant-loop-item
invariant-loop-item l = (i : ItemKey) → (is_some (map.find cmp-value.it i l.item-iterator) || set.contains l.items i) ≡ (set.contains l.more i || set.contains l.fn.items i)
