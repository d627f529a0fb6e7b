use Rattle.fx_tables.proofs.InvariantLemmas.{kept_sets}
use Rattle.fx_tables.proofs.tables.Tables.with_sets.Goals as goal

pub invariant_of-tables : goal.invariant_of-tables
invariant_of-tables c = kept_sets c.args.sets.now c.in_ok-copies.copies c.new.result c.requires c.in_ok-copies.ensures.cases c.new.ensures
