use Rattle.felix_host.proofs.TakingLemmas.{set_dropped}
use Rattle.felix_host.proofs.taking.drop_set.Goals as goal

pub returns : goal.returns
returns c = set_dropped c.args.view.now c.remove.new.self c.args.name.now c.remove.ensures.removed
