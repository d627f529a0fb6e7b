use Rattle.std.proofs.Common.{sym, subst}
use Rattle.fx_model.specs.Tables.{Tables}
use Rattle.fx_model.specs.Closed.{AllLeadThere, AllNameThere}
use Rattle.fx_tables.proofs.InvariantLemmas.{kept-write}
use Rattle.fx_tables.proofs.tables.Tables.write_chain.Goals as goal

pub invariant_of-self-2 : goal.invariant_of-self-2
invariant_of-self-2 o c =
    let there = subst (λ (t : Tables). AllLeadThere t.chains c.args.rules) (sym c.self.view_is) c.requires.there in
    let named = subst (λ (t : Tables). AllNameThere t.sets c.args.rules) (sym c.self.view_is) c.requires.named in
    rw c.in_ok-insert.ensures.ok (kept-write c.self.inside.sets c.self.inside.chains c.args.name c.self.invariant c.args.rules there c.requires.below named c.requires.shaped)
