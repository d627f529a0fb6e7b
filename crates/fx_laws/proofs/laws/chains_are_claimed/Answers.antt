use Rattle.fx_laws.proofs.ChainNames.{chains_claimed}
use Rattle.fx_laws.proofs.laws.chains_are_claimed.Goals as goal

pub returns : goal.returns
returns c = chains_claimed
