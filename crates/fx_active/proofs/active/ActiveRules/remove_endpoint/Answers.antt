use Rattle.std.proofs.Common.{◌≡◌, true, false, not, ◌&&◌, is_some, subst, ap, sym, ◌∙◌}
use Rattle.std.specs.FinMap as map
use Rattle.fx_base.specs.Set as set
use Rattle.fx_model.specs.declared.ids.PolicyId.{PolicyId}
use Rattle.fx_model.proofs.Orders.{item_total, exact_item}
use Rattle.fx_active.specs.declared.inputs.Inputs.{Inputs}
use Rattle.fx_active.specs.Active.{AreProfiles, ArePolicies, ArePairs}
use Rattle.fx_active.specs.Node.{IsActive}
use Rattle.fx_active.specs.Steps.{selects, holds_of, IsUpdated}
use Rattle.fx_active.proofs.Leaving.{leaving_pair, leaving_policy, left_policies, left_pairs}
use Rattle.fx_active.proofs.NodeLemmas.{at_entry}
use Rattle.fx_active.proofs.active.ActiveRules.remove_endpoint.Goals as goal
use Rattle.fx_base.proofs.Cases.{absent_value}
use Rattle.fx_base.proofs.Keyed.{remove_absent}

pub update_endpoint-requires-clause-pairs : goal.update_endpoint-requires-clause-pairs
update_endpoint-requires-clause-pairs g c =
    let n = c.self.inside.held in
    let E = n.endpoints in
    let key = c.args.key.now in
    let was = at_entry c.self.view_is c.requires in
    let P = g.S.ActiveSink.policies c.remove_endpoint.new.sink in
    let S = g.S.ActiveSink.pairs c.remove_endpoint.new.sink in
    let policies : ArePolicies n.policies E n.matched P = λ id. ap (λ m. map.get m id) c.in_ok-remove_endpoint.ensures.policies ∙ was.policies_are id in
    let pairs : ArePairs n.policies E n.matched S = λ id i. ap (λ s. set.contains s (id, i)) c.in_ok-remove_endpoint.ensures.pairs ∙ was.pairs_are id i in
    let is : map.contains_key E key ≡ true = sym c.contains_endpoint.ensures ∙ c.if-not-contains_endpoint.false in
    subst (λ (k : Inputs). (id : PolicyId) → selects k.matched key (map.get k.policies id) ≡ true → set.contains S (id, key) ≡ true) (sym c.in_ok-remove_endpoint.ensures.inputs)
    (leaving_pair n.policies E n.matched key is P S policies pairs)

pub update_endpoint-requires-clause-policies : goal.update_endpoint-requires-clause-policies
update_endpoint-requires-clause-policies g c =
    let n = c.self.inside.held in
    let E = n.endpoints in
    let key = c.args.key.now in
    let was = at_entry c.self.view_is c.requires in
    let P = g.S.ActiveSink.policies c.remove_endpoint.new.sink in
    let S = g.S.ActiveSink.pairs c.remove_endpoint.new.sink in
    let policies : ArePolicies n.policies E n.matched P = λ id. ap (λ m. map.get m id) c.in_ok-remove_endpoint.ensures.policies ∙ was.policies_are id in
    let pairs : ArePairs n.policies E n.matched S = λ id i. ap (λ s. set.contains s (id, i)) c.in_ok-remove_endpoint.ensures.pairs ∙ was.pairs_are id i in
    let is : map.contains_key E key ≡ true = sym c.contains_endpoint.ensures ∙ c.if-not-contains_endpoint.false in
    subst (λ (k : Inputs). (id : PolicyId) → (selects k.matched key (map.get k.policies id) && not (holds_of k.endpoints k.matched (map.get k.policies id))) ≡ true → is_some (map.get P id) ≡ true)
    (sym c.in_ok-remove_endpoint.ensures.inputs)
    (leaving_policy n.policies E n.matched key is P S policies pairs)

pub returns-clause-active : goal.returns-clause-active
returns-clause-active g c =
    let n = c.self.inside.held in
    let E = n.endpoints in
    let key = c.args.key.now in
    let was = at_entry c.self.view_is c.requires in
    let P = g.S.ActiveSink.policies c.remove_endpoint.new.sink in
    let S = g.S.ActiveSink.pairs c.remove_endpoint.new.sink in
    let policies : ArePolicies n.policies E n.matched P = λ id. ap (λ m. map.get m id) c.in_ok-remove_endpoint.ensures.policies ∙ was.policies_are id in
    let pairs : ArePairs n.policies E n.matched S = λ id i. ap (λ s. set.contains s (id, i)) c.in_ok-remove_endpoint.ensures.pairs ∙ was.pairs_are id i in
    let is : map.contains_key E key ≡ true = sym c.contains_endpoint.ensures ∙ c.if-not-contains_endpoint.false in
    let P' = g.S.ActiveSink.policies c.update_endpoint.new.sink in
    let Q' = g.S.ActiveSink.profiles c.update_endpoint.new.sink in
    let S' = g.S.ActiveSink.pairs c.update_endpoint.new.sink in
    let removed = c.in_ok-remove_endpoint.ensures.inputs in
    let updated = subst (λ (k : Inputs). IsUpdated k.policies (λ id. selects k.matched key (map.get k.policies id)) (λ id. holds_of k.endpoints k.matched (map.get k.policies id)) key false P S P' S') removed
    c.in_ok-update_endpoint.ensures.updated in
    let listed = subst (λ (k : Inputs). AreProfiles n.profiles k.endpoints (g.S.ActiveSink.profiles c.remove_endpoint.new.sink)) removed c.in_ok-remove_endpoint.ensures.profiles in
    subst (λ k. IsActive k P' Q' S') (sym removed) (record {
      policies_are = left_policies n.policies E n.matched key is P S policies pairs P' S' updated;
      profiles_are = λ name. ap (λ m. map.get m name) c.in_ok-update_endpoint.ensures.profiles ∙ listed name;
      pairs_are = left_pairs n.policies E n.matched key is P S policies pairs P' S' updated;
    })

pub returns-then-not-contains_endpoint-clause-inputs : goal.returns-then-not-contains_endpoint-clause-inputs
returns-then-not-contains_endpoint-clause-inputs g c =
    let m = c.args.self.now in
    let none : map.contains_key c.self.inside.held.endpoints c.args.key.now ≡ false = sym c.contains_endpoint.ensures ∙ c.if-not-contains_endpoint.true in
    let absent = absent_value (map.get m.endpoints c.args.key.now) (ap (λ (k : Inputs). map.contains_key k.endpoints c.args.key.now) (sym c.self.view_is) ∙ none) in
    λ j. record { policies = m.policies; profiles = m.profiles; endpoints = sym (remove_absent item_total exact_item m.endpoints c.args.key.now absent) j; matched = m.matched }
