use Rattle.fx_walk.proofs.Agree.{walk_is_run}
use Rattle.fx_walk.proofs.laws.walk_is_a_run.Goals as goal

pub returns : goal.returns
returns c = walk_is_run
