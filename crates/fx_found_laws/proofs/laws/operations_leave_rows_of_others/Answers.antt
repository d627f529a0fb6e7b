use Rattle.fx_found_laws.proofs.Together.{leave_rows, leave_names}
use Rattle.fx_found_laws.proofs.laws.operations_leave_rows_of_others.Goals as goal

pub returns-clause-rows : goal.returns-clause-rows
returns-clause-rows c = λ rows found v is sets. leave_rows rows found is v sets

pub returns-clause-names : goal.returns-clause-names
returns-clause-names c = λ rows found v is. leave_names rows found is v
