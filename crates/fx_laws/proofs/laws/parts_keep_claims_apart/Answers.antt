use Rattle.fx_laws.proofs.BatchClaims.{parts_apart}
use Rattle.fx_laws.proofs.laws.parts_keep_claims_apart.Goals as goal

pub returns : goal.returns
returns c = parts_apart
