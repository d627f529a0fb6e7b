use Rattle.fx_model.proofs.Orders.{key_total, exact_key}
use Rattle.fx_base.proofs.Entries.{got, inserted}
use Rattle.fx_model.proofs.key_map.KeyMap.insert.Goals as goal

pub returns-clause-before : goal.returns-clause-before
returns-clause-before g c = got key_total _ _ c.self.view_is _ _ c.in_ok-insert.ensures.old

pub returns-clause-ok : goal.returns-clause-ok
returns-clause-ok g c = inserted key_total exact_key _ _ _ c.self.view_is _ _ c.in_ok-insert.ensures.updates.0
