use Rattle.fx_service_laws.proofs.ReadSound.{reads_are_sound}
use Rattle.fx_service_laws.proofs.laws.read_resources_are_sound.Goals as goal

pub returns : goal.returns
returns c = reads_are_sound
