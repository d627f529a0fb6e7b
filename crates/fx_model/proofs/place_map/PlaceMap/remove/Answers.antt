use Rattle.fx_model.proofs.Orders.{place_total, exact_place}
use Rattle.fx_base.proofs.Entries.{got, removed}
use Rattle.fx_model.proofs.place_map.PlaceMap.remove.Goals as goal

pub returns-clause-before : goal.returns-clause-before
returns-clause-before g c = got place_total _ _ c.self.view_is _ _ c.remove.ensures.value

pub returns-clause-removed : goal.returns-clause-removed
returns-clause-removed g c = removed place_total exact_place _ _ _ c.self.view_is _ c.remove.ensures.updates.0
