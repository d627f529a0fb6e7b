use Rattle.fx_model.proofs.Orders.{policy_pairs_total, exact_policy_pair}
use Rattle.fx_base.proofs.Entries.{put_in}
use Rattle.fx_model.proofs.policy_pairs.PolicyPairSet.insert.Goals as goal

pub returns-clause-ok : goal.returns-clause-ok
returns-clause-ok c = put_in policy_pairs_total exact_policy_pair _ _ _ c.self.view_is _ c.in_ok-insert.ensures.updates.0
