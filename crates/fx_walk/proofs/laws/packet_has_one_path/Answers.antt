use Rattle.fx_walk.proofs.Agree.{one_path}
use Rattle.fx_walk.proofs.laws.packet_has_one_path.Goals as goal

pub returns : goal.returns
returns c = one_path
