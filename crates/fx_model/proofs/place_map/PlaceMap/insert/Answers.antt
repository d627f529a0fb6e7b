use Rattle.fx_model.proofs.Orders.{place_total, exact_place}
use Rattle.fx_base.proofs.Entries.{got, inserted}
use Rattle.fx_model.proofs.place_map.PlaceMap.insert.Goals as goal

pub returns-clause-before : goal.returns-clause-before
returns-clause-before g c = got place_total _ _ c.self.view_is _ _ c.in_ok-insert.ensures.old

pub returns-clause-ok : goal.returns-clause-ok
returns-clause-ok g c = inserted place_total exact_place _ _ _ c.self.view_is _ _ c.in_ok-insert.ensures.updates.0
