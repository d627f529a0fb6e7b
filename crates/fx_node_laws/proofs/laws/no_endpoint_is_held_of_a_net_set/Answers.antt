use Rattle.fx_node_laws.proofs.UpdateTies.{no_endpoint_of_set, no_local_of_set}
use Rattle.fx_node_laws.proofs.laws.no_endpoint_is_held_of_a_net_set.Goals as goal

pub returns-clause-endpoints : goal.returns-clause-endpoints
returns-clause-endpoints c = λ dg R n a r m tied ns name. no_endpoint_of_set tied ns name

pub returns-clause-locals : goal.returns-clause-locals
returns-clause-locals c = λ dg R n a r m tied ns name. no_local_of_set tied ns name
