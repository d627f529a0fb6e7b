use Rattle.std.proofs.Common.{◌≡◌, true, ◌&&◌, is_some, refl, ap, sym, ◌∙◌, subst}
use Rattle.std.specs.FinMap as map
use Rattle.fx_base.specs.Set as set
use Rattle.fx_base.proofs.Walk.{IsRest-head}
use Rattle.fx_model.specs.declared.ids.PolicyId.{PolicyId}
use Rattle.fx_model.proofs.Orders.{policy_total}
use Rattle.fx_active.specs.Steps.{is_typed}
use Rattle.fx_active.proofs.UpdateWalk.{IsHalfUpdated, half_start, half_pass, half_next, half_end, pair_before, policy_before, typed_there, typed_not, not_second}
use Rattle.fx_active.proofs.pairs.update_ids.Goals as goal
use Rattle.fx_base.proofs.Cases.{first_true, both_true}

pub loop-id-init : goal.loop-id-init
loop-id-init g c =
    let policies = c.args.policies.now in
    let ids = c.args.ids.now in
    let concerned = λ (id : PolicyId). set.contains ids id && is_typed (map.get policies id) in
    let others = λ (id : PolicyId). c.args.others in
    let m = g.S.ActiveSink.policies c.args.sink.now in
    let s = g.S.ActiveSink.pairs c.args.sink.now in
    record {
      half = subst (λ es. IsHalfUpdated policies concerned others c.args.item.now c.args.added m s ids m s es)
          (sym (c.into_iter-id-iterator.ensures.into_iter_gives ∙ c.iter-id-items.ensures))
          (half_start policies concerned others c.args.item.now c.args.added m s ids (λ id. first_true (set.contains ids id) (is_typed (map.get policies id))));
      profiles = refl;
    }

pub update_pair-requires-clause-pair : goal.update_pair-requires-clause-pair
update_pair-requires-clause-pair g c =
    let policies = c.args.policies.now in
    let ids = c.args.ids.now in
    let concerned = λ (id : PolicyId). set.contains ids id && is_typed (map.get policies id) in
    let others = λ (id : PolicyId). c.args.others in
    let m = g.S.ActiveSink.policies c.args.sink.now in
    let s = g.S.ActiveSink.pairs c.args.sink.now in
    let m' = g.S.ActiveSink.policies c.loop-id.sink in
    let s' = g.S.ActiveSink.pairs c.loop-id.sink in
    let half = subst (λ es. IsHalfUpdated policies concerned others c.args.item.now c.args.added m s ids m' s' es) c.in-Some.ensures.steps c.loop-id.invariant.half in
    let there = typed_there (map.get policies c.in-Some.id.now) c.in-Some-typed.policy.now c.in-Some-typed.ensures in
    let yes : concerned c.in-Some.id.now ≡ true =
    both_true (set.contains ids c.in-Some.id.now) (is_typed (map.get policies c.in-Some.id.now)) (ap is_some (IsRest-head policy_total ids _ _ half.rest)) there.1 in
    pair_before policies concerned others c.args.item.now c.args.added m s ids m' s' _ _ half yes c.requires.pairs

pub update_pair-requires-clause-policy : goal.update_pair-requires-clause-policy
update_pair-requires-clause-policy g c = λ none.
    let policies = c.args.policies.now in
    let ids = c.args.ids.now in
    let concerned = λ (id : PolicyId). set.contains ids id && is_typed (map.get policies id) in
    let others = λ (id : PolicyId). c.args.others in
    let m = g.S.ActiveSink.policies c.args.sink.now in
    let s = g.S.ActiveSink.pairs c.args.sink.now in
    let m' = g.S.ActiveSink.policies c.loop-id.sink in
    let s' = g.S.ActiveSink.pairs c.loop-id.sink in
    let half = subst (λ es. IsHalfUpdated policies concerned others c.args.item.now c.args.added m s ids m' s' es) c.in-Some.ensures.steps c.loop-id.invariant.half in
    let there = typed_there (map.get policies c.in-Some.id.now) c.in-Some-typed.policy.now c.in-Some-typed.ensures in
    let yes : concerned c.in-Some.id.now ≡ true =
    both_true (set.contains ids c.in-Some.id.now) (is_typed (map.get policies c.in-Some.id.now)) (ap is_some (IsRest-head policy_total ids _ _ half.rest)) there.1 in
    policy_before policies concerned others c.args.item.now c.args.added m s ids m' s' _ _ half yes c.requires.policies none

pub loop-id-preserved-in-Continue-1 : goal.loop-id-preserved-in-Continue-1
loop-id-preserved-in-Continue-1 g c =
    let policies = c.args.policies.now in
    let ids = c.args.ids.now in
    let concerned = λ (id : PolicyId). set.contains ids id && is_typed (map.get policies id) in
    let others = λ (id : PolicyId). c.args.others in
    let m = g.S.ActiveSink.policies c.args.sink.now in
    let s = g.S.ActiveSink.pairs c.args.sink.now in
    let m' = g.S.ActiveSink.policies c.loop-id.sink in
    let s' = g.S.ActiveSink.pairs c.loop-id.sink in
    let half = subst (λ es. IsHalfUpdated policies concerned others c.args.item.now c.args.added m s ids m' s' es) c.in-Some.ensures.steps c.loop-id.invariant.half in
    let there = typed_there (map.get policies c.in-Some.id.now) c.in-Some-typed.policy.now c.in-Some-typed.ensures in
    let yes : concerned c.in-Some.id.now ≡ true =
    both_true (set.contains ids c.in-Some.id.now) (is_typed (map.get policies c.in-Some.id.now)) (ap is_some (IsRest-head policy_total ids _ _ half.rest)) there.1 in
    record {
      half = half_next policies concerned others c.args.item.now c.args.added m s ids m' s' _ _ half yes c.in-Some-typed.policy.now there.0
          (g.S.ActiveSink.policies c.update_pair.new.sink) (g.S.ActiveSink.pairs c.update_pair.new.sink) c.in_ok-update_pair.ensures.policies c.in_ok-update_pair.ensures.pairs;
      profiles = c.in_ok-update_pair.ensures.profiles ∙ c.loop-id.invariant.profiles;
    }

pub loop-id-preserved : goal.loop-id-preserved
loop-id-preserved g c =
    let policies = c.args.policies.now in
    let ids = c.args.ids.now in
    let concerned = λ (id : PolicyId). set.contains ids id && is_typed (map.get policies id) in
    let others = λ (id : PolicyId). c.args.others in
    let m = g.S.ActiveSink.policies c.args.sink.now in
    let s = g.S.ActiveSink.pairs c.args.sink.now in
    let m' = g.S.ActiveSink.policies c.loop-id.sink in
    let s' = g.S.ActiveSink.pairs c.loop-id.sink in
    let half = subst (λ es. IsHalfUpdated policies concerned others c.args.item.now c.args.added m s ids m' s' es) c.in-Some.ensures.steps c.loop-id.invariant.half in
    record {
      half = half_pass policies concerned others c.args.item.now c.args.added m s ids m' s' _ _ half
          (not_second (set.contains ids c.in-Some.id.now) (is_typed (map.get policies c.in-Some.id.now)) (typed_not (map.get policies c.in-Some.id.now) c.in_default.ensures));
      profiles = c.loop-id.invariant.profiles;
    }

pub returns-clause-updated : goal.returns-clause-updated
returns-clause-updated g c =
    let policies = c.args.policies.now in
    let ids = c.args.ids.now in
    let concerned = λ (id : PolicyId). set.contains ids id && is_typed (map.get policies id) in
    let others = λ (id : PolicyId). c.args.others in
    let m = g.S.ActiveSink.policies c.args.sink.now in
    let s = g.S.ActiveSink.pairs c.args.sink.now in
    let m' = g.S.ActiveSink.policies c.loop-id.sink in
    let s' = g.S.ActiveSink.pairs c.loop-id.sink in
    half_end policies concerned others c.args.item.now c.args.added m s ids m' s'
    (subst (λ es. IsHalfUpdated policies concerned others c.args.item.now c.args.added m s ids m' s' es) c.in-None.ensures.steps.0 c.loop-id.invariant.half)
