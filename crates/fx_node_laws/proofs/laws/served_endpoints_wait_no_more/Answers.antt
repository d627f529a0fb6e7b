use Rattle.fx_node_laws.proofs.WaitTies.{served_waits_not}
use Rattle.fx_node_laws.proofs.laws.served_endpoints_wait_no_more.Goals as goal

pub returns : goal.returns
returns c = served_waits_not
