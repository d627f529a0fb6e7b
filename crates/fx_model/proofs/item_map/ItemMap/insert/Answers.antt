use Rattle.fx_model.proofs.Orders.{item_total, exact_item}
use Rattle.fx_base.proofs.Entries.{got, inserted}
use Rattle.fx_model.proofs.item_map.ItemMap.insert.Goals as goal

pub returns-clause-before : goal.returns-clause-before
returns-clause-before g c = got item_total _ _ c.self.view_is _ _ c.in_ok-insert.ensures.old

pub returns-clause-ok : goal.returns-clause-ok
returns-clause-ok g c = inserted item_total exact_item _ _ _ c.self.view_is _ _ c.in_ok-insert.ensures.updates.0
