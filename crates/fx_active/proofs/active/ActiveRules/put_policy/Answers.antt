use Rattle.std.proofs.Common.{◌≡◌, Some, is_some, subst, ap, sym, ◌∙◌}
use Rattle.std.specs.FinMap as map
use Rattle.fx_model.specs.declared.policy.Policy.{Policy}
use Rattle.fx_active.specs.Active.{where_active, applies_to}
use Rattle.fx_active.specs.Node.{IsActive}
use Rattle.fx_active.specs.Steps.{insert_or_remove, IsRowSet}
use Rattle.fx_active.proofs.NodeLemmas.{at_entry, policies_put, pairs_put}
use Rattle.fx_active.proofs.active.ActiveRules.put_policy.Goals as goal

pub tell_policy-requires-clause-policies : goal.tell_policy-requires-clause-policies
tell_policy-requires-clause-policies g c =
    let n = c.self.inside.held in
    let was = at_entry c.self.view_is c.requires in
    ap is_some (was.policies_are c.args.id.now ∙ ap (where_active n.endpoints n.matched) (sym (c.get-before.ensures ∙ ap (λ m. map.get m c.args.id.now) c.policies.ensures)))

pub tell_policy-requires-clause-pairs : goal.tell_policy-requires-clause-pairs
tell_policy-requires-clause-pairs g c = λ i.
    let n = c.self.inside.held in
    let was = at_entry c.self.view_is c.requires in
    was.pairs_are c.args.id.now i ∙ ap (λ o. applies_to n.endpoints n.matched o i) (sym (c.get-before.ensures ∙ ap (λ m. map.get m c.args.id.now) c.policies.ensures))

pub returns-clause-active : goal.returns-clause-active
returns-clause-active g c =
    let P = g.S.ActiveSink.policies c.args.sink.now in
    let S = g.S.ActiveSink.pairs c.args.sink.now in
    let P' = g.S.ActiveSink.policies c.tell_policy.new.sink in
    let S' = g.S.ActiveSink.pairs c.tell_policy.new.sink in
    let n = c.self.inside.held in
    let was = at_entry c.self.view_is c.requires in
    let id = c.args.id.now in
    let p = c.args.policy.now in
    let k : Policy = c.in_ok-indexed.indexed in
    let stands = is_some (where_active n.endpoints n.matched (Some k)) in
    let now = map.insert n.policies id k in
    let at : now ≡ map.insert n.policies id p = ap (map.insert n.policies id) c.in_ok-indexed.ensures in
    let rows : IsRowSet id (λ i. applies_to n.endpoints n.matched (Some p) i) S S' =
    subst (λ (u : Policy). IsRowSet id (λ i. applies_to n.endpoints n.matched (Some u) i) S S') c.in_ok-indexed.ensures c.in_ok-tell_policy.ensures.pairs in
    subst (λ k. IsActive k P' (g.S.ActiveSink.profiles c.tell_policy.new.sink) S') (sym c.in_ok-put_policy.ensures) (record {
      policies_are = policies_put n.endpoints n.matched n.policies now id p at P P' stands was.policies_are
          (ap (λ u. is_some (where_active n.endpoints n.matched (Some u))) c.in_ok-indexed.ensures)
          (c.in_ok-tell_policy.ensures.policies ∙ ap (λ u. insert_or_remove P id u stands) c.in_ok-indexed.ensures);
      profiles_are = λ name. ap (λ m. map.get m name) c.in_ok-tell_policy.ensures.profiles ∙ was.profiles_are name;
      pairs_are = pairs_put n.endpoints n.matched n.policies now id p at S S' was.pairs_are rows;
    })
