use Rattle.fx_walk.proofs.FromRuns.{run_from_has_one_end}
use Rattle.fx_walk.proofs.laws.run_from_has_one_end.Goals as goal

pub returns : goal.returns
returns c = run_from_has_one_end
