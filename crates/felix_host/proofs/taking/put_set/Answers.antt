use Rattle.felix_host.proofs.TakingLemmas.{set_put}
use Rattle.felix_host.proofs.taking.put_set.Goals as goal

pub returns : goal.returns
returns c = set_put c.args.view.now c.add_set.new.sets c.args.name.now c.args.members.now c.in_ok-add_set.ensures
