use Rattle.fx_hostep.proofs.HostAgree.{host_tables_agree}
use Rattle.fx_hostep.proofs.laws.host_tables_agree.Goals as goal

pub returns : goal.returns
returns c = host_tables_agree
