use Rattle.fx_node_laws.proofs.UpdateTies.{put_policy, delete_policy}
use Rattle.fx_node_laws.proofs.laws.policy_updates_keep_ties.Goals as goal

pub returns-clause-put : goal.returns-clause-put
returns-clause-put c = λ dg R id p n a r m n_now a_now r_now m_now tied now. put_policy tied id p now

pub returns-clause-deleted : goal.returns-clause-deleted
returns-clause-deleted c = λ dg R id n a r m n_now a_now r_now m_now tied now. delete_policy tied id now
