use Rattle.fx_model.proofs.Orders.{policy_pairs_total}
use Rattle.fx_base.proofs.Entries.{holds}
use Rattle.fx_model.proofs.policy_pairs.PolicyPairSet.contains.Goals as goal

pub returns : goal.returns
returns c = holds policy_pairs_total _ _ c.self.view_is _ _ c.contains.ensures
