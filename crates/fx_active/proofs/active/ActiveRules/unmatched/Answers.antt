use Rattle.std.proofs.Common.{◌≡◌, ℕ, List, subst, ap, sym, ◌∙◌}
use Rattle.fx_base.specs.Set as set
use Rattle.fx_model.specs.declared.ids.ItemKey.{ItemKey}
use Rattle.fx_model.proofs.Orders.{pairs_total, exact_pair}
use Rattle.fx_active.specs.declared.inputs.Inputs.{Inputs}
use Rattle.fx_active.specs.Active.{ArePolicies, ArePairs}
use Rattle.fx_active.proofs.MapLemmas.{set_removed, set_back}
use Rattle.fx_active.proofs.NodeLemmas.{at_entry}
use Rattle.fx_active.proofs.active.ActiveRules.unmatched.Goals as goal

pub tell_match-requires-clause-absent : goal.tell_match-requires-clause-absent
tell_match-requires-clause-absent g c =
    ap (λ (k : Inputs). set.contains k.matched (c.args.selector.now, c.args.item.now)) c.in_ok-remove_match.ensures
    ∙ set_removed pairs_total c.self.inside.held.matched (c.args.selector.now, c.args.item.now)

pub tell_match-requires-clause-policies : goal.tell_match-requires-clause-policies
tell_match-requires-clause-policies g c =
    let P = g.S.ActiveSink.policies c.args.sink.now in
    let n = c.self.inside.held in
    let was = at_entry c.self.view_is c.requires.active in
    let pair : List ℕ × ItemKey = (c.args.selector.now, c.args.item.now) in
    let back : n.matched ≡ set.insert (set.remove n.matched pair) pair =
    set_back pairs_total exact_pair n.matched pair (ap (λ (k : Inputs). set.contains k.matched pair) c.self.view_is ∙ c.requires.present) in
    subst (λ (k : Inputs). ArePolicies k.policies k.endpoints (set.insert k.matched pair) P) (sym c.in_ok-remove_match.ensures)
    (subst (λ m. ArePolicies n.policies n.endpoints m P) back was.policies_are)

pub tell_match-requires-clause-pairs : goal.tell_match-requires-clause-pairs
tell_match-requires-clause-pairs g c =
    let S = g.S.ActiveSink.pairs c.args.sink.now in
    let n = c.self.inside.held in
    let was = at_entry c.self.view_is c.requires.active in
    let pair : List ℕ × ItemKey = (c.args.selector.now, c.args.item.now) in
    let back : n.matched ≡ set.insert (set.remove n.matched pair) pair =
    set_back pairs_total exact_pair n.matched pair (ap (λ (k : Inputs). set.contains k.matched pair) c.self.view_is ∙ c.requires.present) in
    subst (λ (k : Inputs). ArePairs k.policies k.endpoints (set.insert k.matched pair) S) (sym c.in_ok-remove_match.ensures)
    (subst (λ m. ArePairs n.policies n.endpoints m S) back was.pairs_are)
