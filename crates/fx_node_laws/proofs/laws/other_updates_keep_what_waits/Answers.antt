use Rattle.fx_node_laws.proofs.WaitTies.{waiting_in_sync, waiting_stays}
use Rattle.fx_node_laws.proofs.laws.other_updates_keep_what_waits.Goals as goal

pub returns-clause-in_sync : goal.returns-clause-in_sync
returns-clause-in_sync c = waiting_in_sync

pub returns-clause-endpoints_stay : goal.returns-clause-endpoints_stay
returns-clause-endpoints_stay c = waiting_stays
