use Rattle.fx_service_laws.proofs.Kept.{stand_on}
use Rattle.fx_service_laws.proofs.laws.records_stand_on.Goals as goal

pub returns : goal.returns
returns c = stand_on
