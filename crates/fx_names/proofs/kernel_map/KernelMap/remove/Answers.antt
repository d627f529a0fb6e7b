use Rattle.fx_names.proofs.Orders.{name_total, exact_name}
use Rattle.fx_base.proofs.Entries.{got, removed}
use Rattle.fx_names.proofs.kernel_map.KernelMap.remove.Goals as goal

pub returns-clause-before : goal.returns-clause-before
returns-clause-before g c = got name_total _ _ c.self.view_is _ _ c.remove.ensures.value

pub returns-clause-removed : goal.returns-clause-removed
returns-clause-removed g c = removed name_total exact_name _ _ _ c.self.view_is _ c.remove.ensures.updates.0
