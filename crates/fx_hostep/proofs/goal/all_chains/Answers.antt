use Rattle.fx_hostep.proofs.ShortNames.{profiles_short, endpoints_short}
use Rattle.fx_hostep.proofs.goal.all_chains.Goals as goal

pub push_profiles-requires : goal.push_profiles-requires
push_profiles-requires c = profiles_short c.args.view.now c.requires

pub push_hosts-requires : goal.push_hosts-requires
push_hosts-requires c = endpoints_short c.args.view.now c.requires

pub push_roots-requires : goal.push_roots-requires
push_roots-requires c = endpoints_short c.args.view.now c.requires
