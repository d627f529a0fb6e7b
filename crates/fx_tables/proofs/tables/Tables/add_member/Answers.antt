use Rattle.fx_tables.proofs.InvariantLemmas.{kept-add}
use Rattle.fx_tables.proofs.tables.Tables.add_member.Goals as goal

pub invariant_of-self-2 : goal.invariant_of-self-2
invariant_of-self-2 o c = rw c.in_ok-insert_into.ensures.ok (kept-add c.self.inside.sets c.self.inside.chains c.args.name c.self.invariant c.args.member c.requires.fits)
