use Rattle.fx_walk.proofs.Agree.{run_has_one_end}
use Rattle.fx_walk.proofs.laws.run_has_one_end.Goals as goal

pub returns : goal.returns
returns c = run_has_one_end
