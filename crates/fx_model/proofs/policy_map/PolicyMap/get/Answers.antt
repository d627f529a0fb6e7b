use Rattle.fx_model.proofs.Orders.{policy_total}
use Rattle.fx_base.proofs.Entries.{got}
use Rattle.fx_model.proofs.policy_map.PolicyMap.get.Goals as goal

pub returns : goal.returns
returns g c = got policy_total _ _ c.self.view_is _ _ c.get.ensures.value
