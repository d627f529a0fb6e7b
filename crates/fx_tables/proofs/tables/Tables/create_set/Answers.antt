use Rattle.fx_tables.proofs.InvariantLemmas.{kept-create}
use Rattle.fx_tables.proofs.tables.Tables.create_set.Goals as goal

pub invariant_of-self-2 : goal.invariant_of-self-2
invariant_of-self-2 o c = rw c.in_ok-insert.ensures.ok (rw c.new.ensures (kept-create c.self.inside.sets c.self.inside.chains c.args.name c.self.invariant))
