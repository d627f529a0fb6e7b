use Rattle.fx_model.proofs.Orders.{key_total, exact_key}
use Rattle.fx_base.proofs.Entries.{got, removed}
use Rattle.fx_model.proofs.key_map.KeyMap.remove.Goals as goal

pub returns-clause-before : goal.returns-clause-before
returns-clause-before g c = got key_total _ _ c.self.view_is _ _ c.remove.ensures.value

pub returns-clause-removed : goal.returns-clause-removed
returns-clause-removed g c = removed key_total exact_key _ _ _ c.self.view_is _ c.remove.ensures.updates.0
