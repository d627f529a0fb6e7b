use Rattle.fx_walk.proofs.Agree.{policy_is_kept}
use Rattle.fx_walk.proofs.laws.policy_is_kept.Goals as goal

pub returns : goal.returns
returns c = policy_is_kept
