use Rattle.fx_service_laws.proofs.Verdicts.{verdict_is_kept}
use Rattle.fx_service_laws.proofs.laws.written_verdict_is_kept.Goals as goal

pub returns : goal.returns
returns c = verdict_is_kept
