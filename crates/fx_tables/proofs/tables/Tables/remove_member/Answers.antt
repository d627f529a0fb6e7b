use Rattle.fx_tables.proofs.InvariantLemmas.{kept-take}
use Rattle.fx_tables.proofs.tables.Tables.remove_member.Goals as goal

pub invariant_of-self : goal.invariant_of-self
invariant_of-self o c = rw c.remove_from.ensures (kept-take c.self.inside.sets c.self.inside.chains c.args.name c.self.invariant c.args.member)
