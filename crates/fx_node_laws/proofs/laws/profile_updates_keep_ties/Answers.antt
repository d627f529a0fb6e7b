use Rattle.fx_node_laws.proofs.UpdateTies.{put_profile, delete_profile}
use Rattle.fx_node_laws.proofs.laws.profile_updates_keep_ties.Goals as goal

pub returns-clause-put : goal.returns-clause-put
returns-clause-put c = λ dg R name p n a r m n_now a_now r_now m_now tied now. put_profile tied name p now

pub returns-clause-deleted : goal.returns-clause-deleted
returns-clause-deleted c = λ dg R name n a r m n_now a_now r_now m_now tied now. delete_profile tied name now
