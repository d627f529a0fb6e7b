use Rattle.fx_node_laws.proofs.UpdateTies.{put_tier, delete_tier}
use Rattle.fx_node_laws.proofs.laws.tier_updates_keep_ties.Goals as goal

pub returns-clause-put : goal.returns-clause-put
returns-clause-put c = λ dg R name t n a r m n_now a_now r_now m_now tied now. put_tier tied name t now

pub returns-clause-deleted : goal.returns-clause-deleted
returns-clause-deleted c = λ dg R name n a r m n_now a_now r_now m_now tied now. delete_tier tied name now
