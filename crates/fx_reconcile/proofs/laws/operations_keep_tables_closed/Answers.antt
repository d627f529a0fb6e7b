use Rattle.fx_reconcile.proofs.Kept.{still_sound}
use Rattle.fx_reconcile.proofs.laws.operations_keep_tables_closed.Goals as goal

pub returns-clause-closed : goal.returns-clause-closed
returns-clause-closed c = λ n g op closed ranked goal_closed goal_ranked e. (still_sound n g op closed ranked goal_closed goal_ranked e).0

pub returns-clause-ranked : goal.returns-clause-ranked
returns-clause-ranked c = λ n g op closed ranked goal_closed goal_ranked e. (still_sound n g op closed ranked goal_closed goal_ranked e).1
