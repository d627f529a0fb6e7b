use Rattle.std.proofs.Common.{◌≡◌, true, sym, subst}
use Rattle.std.specs.List.{remove}
use Rattle.fx_model.specs.Closed.{AllLeadThere, AllNameThere}
use Rattle.fx_model.specs.Machine.{rules_in}
use Rattle.fx_model.specs.Ranks.{AllLeadBelow, rank_of}
use Rattle.fx_model.specs.Shapes.{have_shape}
use Rattle.fx_model.specs.Tables.{Tables}
use Rattle.fx_tables.proofs.InvariantLemmas.{kept-write}
use Rattle.fx_tables.proofs.tables.Tables.remove_rule.Goals as goal

pub invariant_of-self : goal.invariant_of-self
invariant_of-self o c =
    let name = c.args.name in
    let there = subst (λ (t : Tables). AllLeadThere t.chains (remove (rules_in t.chains name) c.args.place)) (sym c.self.view_is) c.requires.there in
    let below = subst (λ (t : Tables). AllLeadBelow (rank_of name) (remove (rules_in t.chains name) c.args.place)) (sym c.self.view_is) c.requires.below in
    let named = subst (λ (t : Tables). AllNameThere t.sets (remove (rules_in t.chains name) c.args.place)) (sym c.self.view_is) c.requires.named in
    let shaped = subst (λ (t : Tables). have_shape (remove (rules_in t.chains name) c.args.place) ≡ true) (sym c.self.view_is) c.requires.shaped in
    rw c.remove_from_chain.ensures (kept-write c.self.inside.sets c.self.inside.chains name c.self.invariant (remove (rules_in c.self.inside.chains name) c.args.place) there below named shaped)
