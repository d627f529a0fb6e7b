use Rattle.fx_node_laws.proofs.WaitTies.{in_sync_brings}
use Rattle.fx_node_laws.proofs.laws.in_sync_brings_what_waits.Goals as goal

pub returns : goal.returns
returns c = λ dg R w is h n a r m n_now a_now r_now m_now tied now. in_sync_brings tied h w is now
