use Rattle.felix_host.proofs.TakingLemmas.{profile_put}
use Rattle.felix_host.proofs.taking.put_profile.Goals as goal

pub returns : goal.returns
returns c = profile_put c.args.view.now c.put_name.new.held c.args.key.now c.args.profile.now c.in_ok-put_name.ensures
