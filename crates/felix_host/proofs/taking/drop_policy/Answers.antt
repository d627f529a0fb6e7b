use Rattle.felix_host.proofs.TakingLemmas.{policy_dropped}
use Rattle.felix_host.proofs.taking.drop_policy.Goals as goal

pub returns : goal.returns
returns c = policy_dropped c.args.view.now c.remove.new.self c.args.key.now c.remove.ensures.removed
