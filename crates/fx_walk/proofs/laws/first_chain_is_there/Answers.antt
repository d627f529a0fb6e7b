use Rattle.fx_walk.proofs.Families.{first_there}
use Rattle.fx_walk.proofs.laws.first_chain_is_there.Goals as goal

pub returns : goal.returns
returns c = first_there
