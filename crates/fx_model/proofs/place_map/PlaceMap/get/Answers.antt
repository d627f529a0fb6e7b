use Rattle.fx_model.proofs.Orders.{place_total}
use Rattle.fx_base.proofs.Entries.{got}
use Rattle.fx_model.proofs.place_map.PlaceMap.get.Goals as goal

pub returns : goal.returns
returns g c = got place_total _ _ c.self.view_is _ _ c.get.ensures.value
