use Rattle.fx_names.proofs.Orders.{name_total, exact_name}
use Rattle.fx_base.proofs.Entries.{got, inserted}
use Rattle.fx_names.proofs.kernel_map.KernelMap.insert.Goals as goal

pub returns-clause-before : goal.returns-clause-before
returns-clause-before g c = got name_total _ _ c.self.view_is _ _ c.in_ok-insert.ensures.old

pub returns-clause-ok : goal.returns-clause-ok
returns-clause-ok g c = inserted name_total exact_name _ _ _ c.self.view_is _ _ c.in_ok-insert.ensures.updates.0
