use Rattle.fx_node_laws.proofs.UpdateTies.{in_sync_tied}
use Rattle.fx_node_laws.proofs.laws.in_sync_keeps_ties.Goals as goal

pub returns : goal.returns
returns c = λ dg R n a r m n_now a_now r_now m_now tied endpoints locals now. in_sync_tied tied endpoints locals now
