use Rattle.fx_model.proofs.Orders.{policy_pairs_total, exact_policy_pair}
use Rattle.fx_base.proofs.Entries.{taken_out}
use Rattle.fx_model.proofs.policy_pairs.PolicyPairSet.remove.Goals as goal

pub returns : goal.returns
returns c = taken_out policy_pairs_total exact_policy_pair _ _ _ c.self.view_is _ c.remove.ensures.updates.0
