use Rattle.fx_tables.proofs.InvariantLemmas.{kept-empty}
use Rattle.fx_tables.proofs.tables.Tables.new.Goals as goal

pub invariant_of-result : goal.invariant_of-result
invariant_of-result c = rw (c.new.ensures, c.new-2.ensures) kept-empty
