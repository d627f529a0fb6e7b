use Rattle.fx_node_laws.proofs.WaitTies.{no_endpoints_yet, no_locals_yet}
use Rattle.fx_node_laws.proofs.laws.nothing_is_served_before_in_sync.Goals as goal

pub returns-clause-endpoints : goal.returns-clause-endpoints
returns-clause-endpoints c = λ dg R n a r m tied h. no_endpoints_yet tied h

pub returns-clause-locals : goal.returns-clause-locals
returns-clause-locals c = λ dg R n a r m tied h. no_locals_yet tied h
