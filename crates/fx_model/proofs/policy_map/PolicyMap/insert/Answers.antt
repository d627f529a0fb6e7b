use Rattle.fx_model.proofs.Orders.{policy_total, exact_policy}
use Rattle.fx_base.proofs.Entries.{got, inserted}
use Rattle.fx_model.proofs.policy_map.PolicyMap.insert.Goals as goal

pub returns-clause-before : goal.returns-clause-before
returns-clause-before g c = got policy_total _ _ c.self.view_is _ _ c.in_ok-insert.ensures.old

pub returns-clause-ok : goal.returns-clause-ok
returns-clause-ok g c = inserted policy_total exact_policy _ _ _ c.self.view_is _ _ c.in_ok-insert.ensures.updates.0
