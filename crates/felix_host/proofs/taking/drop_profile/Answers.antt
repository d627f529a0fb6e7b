use Rattle.felix_host.proofs.TakingLemmas.{profile_dropped}
use Rattle.felix_host.proofs.taking.drop_profile.Goals as goal

pub returns : goal.returns
returns c = profile_dropped c.args.view.now c.remove.new.self c.args.key.now c.remove.ensures.removed
