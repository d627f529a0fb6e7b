use Rattle.fx_node_laws.proofs.UpdateTies.{still_tied}
use Rattle.fx_node_laws.proofs.laws.other_inputs_are_free.Goals as goal

pub returns : goal.returns
returns c = λ dg R n a r m n_now a_now r_now m_now tied now. still_tied tied now
