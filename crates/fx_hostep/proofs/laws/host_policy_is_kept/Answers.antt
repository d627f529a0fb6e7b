use Rattle.fx_hostep.proofs.HostAgree.{host_policy_is_kept}
use Rattle.fx_hostep.proofs.laws.host_policy_is_kept.Goals as goal

pub returns : goal.returns
returns c = host_policy_is_kept
