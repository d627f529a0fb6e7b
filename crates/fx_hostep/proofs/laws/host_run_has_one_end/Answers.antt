use Rattle.fx_hostep.proofs.HostAgree.{host_run_has_one_end}
use Rattle.fx_hostep.proofs.laws.host_run_has_one_end.Goals as goal

pub returns : goal.returns
returns c = host_run_has_one_end
