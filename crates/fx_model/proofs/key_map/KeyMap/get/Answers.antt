use Rattle.fx_model.proofs.Orders.{key_total}
use Rattle.fx_base.proofs.Entries.{got}
use Rattle.fx_model.proofs.key_map.KeyMap.get.Goals as goal

pub returns : goal.returns
returns g c = got key_total _ _ c.self.view_is _ _ c.get.ensures.value
