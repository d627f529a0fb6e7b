use Rattle.fx_hostep.proofs.HostLeads.{goal_writable}
use Rattle.fx_hostep.proofs.goal.host_goal.Goals as goal

pub write_all-requires : goal.write_all-requires
write_all-requires c = goal_writable c.args.view.now c.args.failsafe.now _ _ c.requires.closed c.in_ok-tables.ensures c.in_ok-chains.ensures
