use Rattle.std.proofs.Common.{◌∙◌}
use Rattle.fx_model.proofs.Orders.{policy_total}
use Rattle.fx_base.proofs.Entries.{walked}
use Rattle.fx_model.proofs.policy_map.PolicyMap.iter.Goals as goal

pub returns : goal.returns
returns g c = c.iter.ensures.rest ∙ walked policy_total _ _ c.self.view_is c.self.invariant
