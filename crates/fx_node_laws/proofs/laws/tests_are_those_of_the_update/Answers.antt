use Rattle.fx_node_laws.proofs.UpdateTests.{most_of_update, least_of_update}
use Rattle.fx_node_laws.proofs.laws.tests_are_those_of_the_update.Goals as goal

pub returns : goal.returns
returns c = λ dg R u n a r m policies profiles pairs s v uses n_now a_now r_now m_now policies_now profiles_now pairs_now s_now v_now uses_now tied told counts tied_now told_now counts_now.
    (most_of_update u tied told counts tied_now told_now counts_now, least_of_update u tied told counts tied_now told_now counts_now)
