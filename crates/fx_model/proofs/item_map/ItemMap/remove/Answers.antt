use Rattle.fx_model.proofs.Orders.{item_total, exact_item}
use Rattle.fx_base.proofs.Entries.{got, removed}
use Rattle.fx_model.proofs.item_map.ItemMap.remove.Goals as goal

pub returns-clause-before : goal.returns-clause-before
returns-clause-before g c = got item_total _ _ c.self.view_is _ _ c.remove.ensures.value

pub returns-clause-removed : goal.returns-clause-removed
returns-clause-removed g c = removed item_total exact_item _ _ _ c.self.view_is _ c.remove.ensures.updates.0
