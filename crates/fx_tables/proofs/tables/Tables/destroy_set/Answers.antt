use Rattle.std.proofs.Common.{sym, subst}
use Rattle.fx_model.specs.Tables.{Tables}
use Rattle.fx_tables.specs.Names.{NoneNames}
use Rattle.fx_tables.proofs.InvariantLemmas.{kept-destroy}
use Rattle.fx_tables.proofs.tables.Tables.destroy_set.Goals as goal

pub invariant_of-self : goal.invariant_of-self
invariant_of-self o c =
    let none = subst (λ (t : Tables). NoneNames t.chains c.args.name) (sym c.self.view_is) c.requires in
    rw c.remove.ensures.removed (kept-destroy c.self.inside.sets c.self.inside.chains c.args.name c.self.invariant none)
