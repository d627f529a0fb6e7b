use Rattle.fx_found_laws.proofs.ViewNames.{view_own, wanted_own}
use Rattle.fx_found_laws.proofs.laws.view_tables_are_own.Goals as goal

pub returns-clause-named : goal.returns-clause-named
returns-clause-named c = view_own

pub returns-clause-wanted : goal.returns-clause-wanted
returns-clause-wanted c = wanted_own
