use Rattle.fx_node_laws.proofs.UpdateTies.{put_served_endpoint, put_other_endpoint, delete_endpoint}
use Rattle.fx_node_laws.proofs.laws.endpoint_updates_keep_ties.Goals as goal

pub returns-clause-served : goal.returns-clause-served
returns-clause-served c = λ dg R ns name e served n a r m n_now a_now r_now m_now tied now. put_served_endpoint tied ns name e served now

pub returns-clause-unserved : goal.returns-clause-unserved
returns-clause-unserved c = λ dg R ns name e unserved n a r m n_now a_now r_now m_now tied now. put_other_endpoint tied ns name e unserved now

pub returns-clause-deleted : goal.returns-clause-deleted
returns-clause-deleted c = λ dg R ns name n a r m n_now a_now r_now m_now tied now. delete_endpoint tied ns name now
