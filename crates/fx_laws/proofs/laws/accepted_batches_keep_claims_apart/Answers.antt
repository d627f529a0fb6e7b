use Rattle.fx_laws.proofs.BatchClaims.{batch_apart}
use Rattle.fx_laws.proofs.BatchSteps.{steps-stay}
use Rattle.fx_laws.proofs.laws.accepted_batches_keep_claims_apart.Goals as goal

pub returns-clause-after : goal.returns-clause-after
returns-clause-after c = batch_apart

pub returns-clause-between : goal.returns-clause-between
returns-clause-between c = steps-stay
