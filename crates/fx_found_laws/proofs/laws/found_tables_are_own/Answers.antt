use Rattle.fx_found_laws.proofs.FoundNames.{found_own}
use Rattle.fx_found_laws.proofs.laws.found_tables_are_own.Goals as goal

pub returns : goal.returns
returns c = found_own
