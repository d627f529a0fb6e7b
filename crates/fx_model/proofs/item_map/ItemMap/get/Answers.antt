use Rattle.fx_model.proofs.Orders.{item_total}
use Rattle.fx_base.proofs.Entries.{got}
use Rattle.fx_model.proofs.item_map.ItemMap.get.Goals as goal

pub returns : goal.returns
returns g c = got item_total _ _ c.self.view_is _ _ c.get.ensures.value
