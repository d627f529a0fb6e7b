use Rattle.std.proofs.Common.{◌≡◌, true, sym, subst}
use Rattle.std.specs.List.{insert}
use Rattle.fx_model.specs.Closed.{AllLeadThere, AllNameThere}
use Rattle.fx_model.specs.Machine.{rules_in}
use Rattle.fx_model.specs.Ranks.{AllLeadBelow, rank_of}
use Rattle.fx_model.specs.Shapes.{have_shape}
use Rattle.fx_model.specs.Tables.{Tables}
use Rattle.fx_tables.proofs.InvariantLemmas.{kept-write}
use Rattle.fx_tables.proofs.tables.Tables.insert_rule.Goals as goal

pub invariant_of-self-2 : goal.invariant_of-self-2
invariant_of-self-2 o c =
    let name = c.args.name in
    let there = subst (λ (t : Tables). AllLeadThere t.chains (insert (rules_in t.chains name) c.args.place c.args.rule)) (sym c.self.view_is) c.requires.there in
    let below = subst (λ (t : Tables). AllLeadBelow (rank_of name) (insert (rules_in t.chains name) c.args.place c.args.rule)) (sym c.self.view_is) c.requires.below in
    let named = subst (λ (t : Tables). AllNameThere t.sets (insert (rules_in t.chains name) c.args.place c.args.rule)) (sym c.self.view_is) c.requires.named in
    let shaped = subst (λ (t : Tables). have_shape (insert (rules_in t.chains name) c.args.place c.args.rule) ≡ true) (sym c.self.view_is) c.requires.shaped in
    rw c.in_ok-insert_into_chain.ensures.ok (kept-write c.self.inside.sets c.self.inside.chains name c.self.invariant (insert (rules_in c.self.inside.chains name) c.args.place c.args.rule) there below named shaped)
