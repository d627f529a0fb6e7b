use Rattle.std.proofs.Common.{sym, subst}
use Rattle.fx_model.specs.Tables.{Tables}
use Rattle.fx_tables.specs.Leads.{NoneLeadsTo}
use Rattle.fx_tables.proofs.InvariantLemmas.{kept-delete}
use Rattle.fx_tables.proofs.tables.Tables.delete_chain.Goals as goal

pub invariant_of-self : goal.invariant_of-self
invariant_of-self o c =
    let none = subst (λ (t : Tables). NoneLeadsTo t.chains c.args.name) (sym c.self.view_is) c.requires in
    rw c.remove.ensures.removed (kept-delete c.self.inside.sets c.self.inside.chains c.args.name c.self.invariant none)
