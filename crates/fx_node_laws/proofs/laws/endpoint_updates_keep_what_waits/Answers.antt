use Rattle.fx_node_laws.proofs.WaitTies.{waiting_put, other_put, waiting_gone}
use Rattle.fx_node_laws.proofs.laws.endpoint_updates_keep_what_waits.Goals as goal

pub returns-clause-waiting : goal.returns-clause-waiting
returns-clause-waiting c = λ R w k e is h. waiting_put R w is k e h

pub returns-clause-other : goal.returns-clause-other
returns-clause-other c = λ R w k e is h. other_put R w is k e h

pub returns-clause-deleted : goal.returns-clause-deleted
returns-clause-deleted c = λ R w k is. waiting_gone R w is k
