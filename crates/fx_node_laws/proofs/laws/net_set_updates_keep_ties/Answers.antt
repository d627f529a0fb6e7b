use Rattle.fx_node_laws.proofs.UpdateTies.{put_net_set, delete_net_set}
use Rattle.fx_node_laws.proofs.laws.net_set_updates_keep_ties.Goals as goal

pub returns-clause-put : goal.returns-clause-put
returns-clause-put c = λ dg R ns name s n a r m n_now a_now r_now m_now tied now. put_net_set tied ns name s now

pub returns-clause-deleted : goal.returns-clause-deleted
returns-clause-deleted c = λ dg R ns name n a r m n_now a_now r_now m_now tied now. delete_net_set tied ns name now
