use Rattle.std.proofs.Common.{◌∙◌}
use Rattle.fx_model.proofs.Orders.{key_total}
use Rattle.fx_base.proofs.Entries.{walked}
use Rattle.fx_model.proofs.key_map.KeyMap.iter.Goals as goal

pub returns : goal.returns
returns g c = c.iter.ensures.rest ∙ walked key_total _ _ c.self.view_is c.self.invariant
