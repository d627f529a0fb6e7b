use Rattle.fx_names.proofs.Orders.{name_total}
use Rattle.fx_base.proofs.Entries.{got}
use Rattle.fx_names.proofs.kernel_map.KernelMap.get.Goals as goal

pub returns : goal.returns
returns g c = got name_total _ _ c.self.view_is _ _ c.get.ensures.value
