use Rattle.fx_laws.proofs.Nearer.{step-nearer}
use Rattle.fx_laws.proofs.laws.message_leaves_one_difference_fewer.Goals as goal

pub returns : goal.returns
returns c = step-nearer
