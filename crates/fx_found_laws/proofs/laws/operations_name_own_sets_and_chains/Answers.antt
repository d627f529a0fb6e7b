use Rattle.fx_model.specs.Views.{view_of}
use Rattle.fx_found_laws.proofs.ViewNames.{wanted_sets_own}
use Rattle.fx_found_laws.proofs.OperationNames.{operations_own}
use Rattle.fx_found_laws.proofs.Together.{name_own}
use Rattle.fx_found_laws.proofs.laws.operations_name_own_sets_and_chains.Goals as goal

pub returns-clause-between : goal.returns-clause-between
returns-clause-between c = operations_own

pub returns-clause-view : goal.returns-clause-view
returns-clause-view c = λ rows found v is sets. name_own rows found is v sets

pub returns-clause-wanted : goal.returns-clause-wanted
returns-clause-wanted c = λ rows found dg R is. name_own rows found is (view_of dg R) (wanted_sets_own dg R)
