use Rattle.felix_host.proofs.TakingLemmas.{policy_put}
use Rattle.felix_host.proofs.taking.put_policy.Goals as goal

pub returns : goal.returns
returns c = policy_put c.args.view.now c.put_name.new.held c.args.key.now c.args.policy.now c.in_ok-put_name.ensures
