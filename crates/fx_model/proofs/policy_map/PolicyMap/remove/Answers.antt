use Rattle.fx_model.proofs.Orders.{policy_total, exact_policy}
use Rattle.fx_base.proofs.Entries.{got, removed}
use Rattle.fx_model.proofs.policy_map.PolicyMap.remove.Goals as goal

pub returns-clause-before : goal.returns-clause-before
returns-clause-before g c = got policy_total _ _ c.self.view_is _ _ c.remove.ensures.value

pub returns-clause-removed : goal.returns-clause-removed
returns-clause-removed g c = removed policy_total exact_policy _ _ _ c.self.view_is _ c.remove.ensures.updates.0
