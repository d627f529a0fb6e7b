use Rattle.std.proofs.Common.{is_some, refl, subst, ap, sym, ◌∙◌}
use Rattle.std.specs.FinMap as map
use Rattle.fx_active.specs.Active.{where_active, applies_to}
use Rattle.fx_active.specs.Node.{IsActive}
use Rattle.fx_active.proofs.NodeLemmas.{at_entry, policies_removed, pairs_removed}
use Rattle.fx_active.proofs.active.ActiveRules.remove_policy.Goals as goal

pub withdraw_policy-requires-clause-policies : goal.withdraw_policy-requires-clause-policies
withdraw_policy-requires-clause-policies g c =
    let n = c.self.inside.held in
    let was = at_entry c.self.view_is c.requires in
    ap is_some (was.policies_are c.args.id.now ∙ ap (where_active n.endpoints n.matched) (sym (c.get-before.ensures ∙ ap (λ m. map.get m c.args.id.now) c.policies.ensures)))

pub withdraw_policy-requires-clause-pairs : goal.withdraw_policy-requires-clause-pairs
withdraw_policy-requires-clause-pairs g c = λ i.
    let n = c.self.inside.held in
    let was = at_entry c.self.view_is c.requires in
    was.pairs_are c.args.id.now i ∙ ap (λ o. applies_to n.endpoints n.matched o i) (sym (c.get-before.ensures ∙ ap (λ m. map.get m c.args.id.now) c.policies.ensures))

pub returns-clause-active : goal.returns-clause-active
returns-clause-active g c =
    let P = g.S.ActiveSink.policies c.args.sink.now in
    let S = g.S.ActiveSink.pairs c.args.sink.now in
    let P' = g.S.ActiveSink.policies c.withdraw_policy.new.sink in
    let S' = g.S.ActiveSink.pairs c.withdraw_policy.new.sink in
    let n = c.self.inside.held in
    let was = at_entry c.self.view_is c.requires in
    let id = c.args.id.now in
    let now = map.remove n.policies id in
    subst (λ k. IsActive k P' (g.S.ActiveSink.profiles c.withdraw_policy.new.sink) S') (sym c.remove_policy.ensures) (record {
      policies_are = policies_removed n.endpoints n.matched n.policies now id refl P P' was.policies_are c.in_ok-withdraw_policy.ensures.policies;
      profiles_are = λ name. ap (λ m. map.get m name) c.in_ok-withdraw_policy.ensures.profiles ∙ was.profiles_are name;
      pairs_are = pairs_removed n.endpoints n.matched n.policies now id refl S S' was.pairs_are c.in_ok-withdraw_policy.ensures.pairs;
    })
