use Rattle.fx_service_laws.proofs.SoundKept.{stays_sound}
use Rattle.fx_service_laws.proofs.laws.soundness_is_kept.Goals as goal

pub returns : goal.returns
returns c = stays_sound
