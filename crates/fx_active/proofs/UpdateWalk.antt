-- A walk that brings the policies that an item concerns up to date, one after another.
use Rattle.std.proofs.Common.{◌≡◌, Bool, true, false, cond, not, ◌&&◌, List, [], ◌∷◌, Option, Some, None, is_some, refl, sym, ap, ◌∙◌}
use Rattle.std.specs.Ordering.{is_eq}
use Rattle.std.specs.Cmp.{tied_itself}
use Rattle.std.specs.FinMap.{FinMap, get, entries, get-entries, get-insert, get-remove}
use Rattle.fx_base.specs.Set as set
use Rattle.fx_base.proofs.Walk.{IsRest, IsHalf, IsRest-start, IsRest-next, IsHalf-head, IsHalf-next}
use Rattle.fx_model.specs.Pairs.{PolicyPairs, put}
use Rattle.fx_model.specs.Sinks.{Policies}
use Rattle.fx_model.specs.declared.ids.ItemKey.{ItemKey}
use Rattle.fx_model.specs.declared.ids.PolicyId.{PolicyId}
use Rattle.fx_model.specs.declared.policy.Policy.{Policy}
use Rattle.fx_model.specs.contracts.ids.PolicyIdOrd.TheImpl.{cmp-value}
use Rattle.fx_model.proofs.Orders.{policy_total, exact_policy}
use Rattle.fx_model.proofs.PairAt.{contains_put_policy_pair}
use Rattle.fx_model.specs.Active.{has_types}
use Rattle.fx_active.specs.Steps.{same_id, same_item, insert_or_remove, typed, is_typed, IsUpdated}

abbrev pub own_policy : Policies → PolicyId → Unit {0} → Option Policy
own_policy m id u = get m id

abbrev pub own_pair : PolicyPairs → PolicyId → ItemKey → Bool
own_pair s id i = set.contains s (id, i)

abbrev pub policy_after : Policies → (PolicyId → Bool) → (PolicyId → Bool) → Bool → Policies → PolicyId → Unit {0} → Option Policy
policy_after policies concerned others added m id u = cond (concerned id && not (others id)) (cond added (get policies id) None) (get m id)

abbrev pub pair_after : (PolicyId → Bool) → ItemKey → Bool → PolicyPairs → PolicyId → ItemKey → Bool
pair_after concerned item added s id i = cond (concerned id && same_item i item) added (set.contains s (id, i))

-- the policies whose ids are left of the walk of w are as they were, the others are up to date
pub record IsHalfUpdated {X : Type 0} (policies : Policies) (concerned others : PolicyId → Bool) (item : ItemKey) (added : Bool) (m : Policies) (s : PolicyPairs) (w : FinMap cmp-value.it X) (m' : Policies) (s' : PolicyPairs) (es : List (PolicyId × X)) : Type 0 where
  pub rest : IsRest w es
  pub policies_half : IsHalf cmp-value.it (own_policy m) (policy_after policies concerned others added m) (own_policy m') es
  pub pairs_half : IsHalf cmp-value.it (own_pair s) (pair_after concerned item added s) (own_pair s') es

pub get_either : (m : Policies) (k : PolicyId) (p : Policy) (added : Bool) (q : PolicyId) → get (insert_or_remove m k p added) q ≡ cond (same_id q k) (cond added (Some p) None) (get m q)
get_either m k p true q = get-insert policy_total m k p q
get_either m k p false q = get-remove policy_total m k q

unless : {A : Type 0} (b : Bool) (x y : A) → cond (b && false) x y ≡ y
unless true x y = refl
unless false x y = refl

always : {A : Type 0} (b : Bool) (x y : A) → cond (b && true) x y ≡ cond b x y
always true x y = refl
always false x y = refl

get_updated : (m then : Policies) (k : PolicyId) (p : Policy) (b added : Bool) → then ≡ cond b m (insert_or_remove m k p added) → (q : PolicyId) → get then q ≡ cond (same_id q k && not b) (cond added (Some p) None) (get m q)
get_updated m then k p true added h q = ap (λ n. get n q) h ∙ sym (unless (same_id q k) (cond added (Some p) None) (get m q))
get_updated m then k p false added h q = ap (λ n. get n q) h ∙ get_either m k p added q ∙ sym (always (same_id q k) (cond added (Some p) None) (get m q))

module _ {X : Type 0} (policies : Policies) (concerned others : PolicyId → Bool) (item : ItemKey) (added : Bool) (m : Policies) (s : PolicyPairs) (w : FinMap cmp-value.it X) where
  -- a walk reaches all that are concerned
  pub half_start : ((id : PolicyId) → concerned id ≡ true → is_some (get w id) ≡ true) → IsHalfUpdated policies concerned others item added m s w m s (entries w)
  half_start covers =
      let none : (id : PolicyId) → is_some (get w id) ≡ false → concerned id ≡ false =
      λ id h. elim (concerned id) as (λ b. concerned id ≡ b → b ≡ false) [
        | true ↦ λ e. sym (covers id e) ∙ h
        | false ↦ λ e. refl
      ] refl in
      record {
        rest = IsRest-start policy_total w;
        policies_half = record {
          at = λ id u.
              elim (is_some (get w id)) as (λ b. is_some (get w id) ≡ b → get m id ≡ cond b (get m id) (policy_after policies concerned others added m id u)) [
                | true ↦ λ e. refl
                | false ↦ λ e. sym (ap (λ b. cond (b && not (others id)) (cond added (get policies id) None) (get m id)) (none id e))
              ] refl
              ∙ ap (λ o. cond (is_some o) (get m id) (policy_after policies concerned others added m id u)) (get-entries w id);
        };
        pairs_half = record {
          at = λ id i.
              elim (is_some (get w id)) as (λ b. is_some (get w id) ≡ b → set.contains s (id, i) ≡ cond b (set.contains s (id, i)) (pair_after concerned item added s id i)) [
                | true ↦ λ e. refl
                | false ↦ λ e. sym (ap (λ b. cond (b && same_item i item) added (set.contains s (id, i))) (none id e))
              ] refl
              ∙ ap (λ o. cond (is_some o) (set.contains s (id, i)) (pair_after concerned item added s id i)) (get-entries w id);
        };
      }

  module _ (m' : Policies) (s' : PolicyPairs) (e : PolicyId × X) (es : List (PolicyId × X)) (h : IsHalfUpdated policies concerned others item added m s w m' s' (e ∷ es)) where
    policy_head : get m' e.0 ≡ get m e.0
    policy_head = IsHalf-head policy_total exact_policy (own_policy m) (policy_after policies concerned others added m) (own_policy m') e es h.policies_half tt

    pair_head : (i : ItemKey) → set.contains s' (e.0, i) ≡ set.contains s (e.0, i)
    pair_head i = IsHalf-head policy_total exact_policy (own_pair s) (pair_after concerned item added s) (own_pair s') e es h.pairs_half i

    -- the policy isn't concerned
    pub half_pass : concerned e.0 ≡ false → IsHalfUpdated policies concerned others item added m s w m' s' es
    half_pass isnt = record {
      rest = IsRest-next policy_total exact_policy w e es h.rest;
      policies_half = IsHalf-next policy_total exact_policy (own_policy m) (policy_after policies concerned others added m) w (own_policy m') (own_policy m') e es h.rest h.policies_half
          (λ u. policy_head ∙ sym (ap (λ b. cond (b && not (others e.0)) (cond added (get policies e.0) None) (get m e.0)) isnt))
          (λ id u n. refl);
      pairs_half = IsHalf-next policy_total exact_policy (own_pair s) (pair_after concerned item added s) w (own_pair s') (own_pair s') e es h.rest h.pairs_half
          (λ i. pair_head i ∙ sym (ap (λ b. cond (b && same_item i item) added (set.contains s (e.0, i))) isnt))
          (λ id i n. refl);
    }

    module _ (yes : concerned e.0 ≡ true) where
      pub pair_before : ((id : PolicyId) → concerned id ≡ true → set.contains s (id, item) ≡ not added) → set.contains s' (e.0, item) ≡ not added
      pair_before was = pair_head item ∙ was e.0 yes

      pub policy_before : ((id : PolicyId) → (concerned id && not (others id)) ≡ true → is_some (get m id) ≡ not added) → others e.0 ≡ false → is_some (get m' e.0) ≡ not added
      policy_before was none = ap is_some policy_head ∙ was e.0 (λ j. (yes j) && not (none j))

      -- the policy was updated
      pub half_next : (p : Policy) → get policies e.0 ≡ Some p → (m'' : Policies) (s'' : PolicyPairs) → m'' ≡ cond (others e.0) m' (insert_or_remove m' e.0 p added) → s'' ≡ put s' (e.0, item) added → IsHalfUpdated policies concerned others item added m s w m'' s'' es
      half_next p there m'' s'' is are =
          let policy : (q : PolicyId) → get m'' q ≡ cond (same_id q e.0 && not (others e.0)) (cond added (Some p) None) (get m' q) = get_updated m' m'' e.0 p (others e.0) added is in
          let pair : (q : PolicyId) (i : ItemKey) → set.contains s'' (q, i) ≡ cond (same_id q e.0 && same_item i item) added (set.contains s' (q, i)) =
          λ q i. ap (λ k. set.contains k (q, i)) are ∙ contains_put_policy_pair s' e.0 item added q i in
          record {
            rest = IsRest-next policy_total exact_policy w e es h.rest;
            policies_half = IsHalf-next policy_total exact_policy (own_policy m) (policy_after policies concerned others added m) w (own_policy m') (own_policy m'') e es h.rest h.policies_half
                (λ u. policy e.0
                ∙ (λ j. cond (is_eq (tied_itself policy_total e.0 j) && not (others e.0)) (cond added (Some p) None) (policy_head j))
                ∙ ap (λ b. cond (b && not (others e.0)) (cond added (Some p) None) (get m e.0)) (sym yes)
                ∙ ap (λ o. cond (concerned e.0 && not (others e.0)) (cond added o None) (get m e.0)) (sym there))
                (λ id u n. policy id ∙ ap (λ b. cond (b && not (others e.0)) (cond added (Some p) None) (get m' id)) n);
            pairs_half = IsHalf-next policy_total exact_policy (own_pair s) (pair_after concerned item added s) w (own_pair s') (own_pair s'') e es h.rest h.pairs_half
                (λ i. pair e.0 i
                ∙ (λ j. cond (is_eq (tied_itself policy_total e.0 j) && same_item i item) added (pair_head i j))
                ∙ ap (λ b. cond (b && same_item i item) added (set.contains s (e.0, i))) (sym yes))
                (λ id i n. pair id i ∙ ap (λ b. cond (b && same_item i item) added (set.contains s' (id, i))) n);
          }

  pub half_end : (m' : Policies) (s' : PolicyPairs) → IsHalfUpdated policies concerned others item added m s w m' s' [] → IsUpdated policies concerned others item added m s m' s'
  half_end m' s' h = record { policies_now = λ id. h.policies_half.at id tt; pairs_now = λ id i. h.pairs_half.at id i }

pub typed_there : (o : Option Policy) (p : Policy) → Some p ≡ typed o → (o ≡ Some p) × (is_typed o ≡ true)
typed_there None p h = cc
typed_there (Some q) p h = elim (has_types q) as (λ b. has_types q ≡ b → Some p ≡ cond b (Some q) None → (◌≡◌ {A = Option Policy} (Some q) (Some p)) × (has_types q ≡ true)) [
  | true ↦ λ e g. (sym g, e)
  | false ↦ λ e g. cc
] refl h

pub typed_not : (o : Option Policy) → None ≡ typed o → is_typed o ≡ false
typed_not None h = refl
typed_not (Some q) h = elim (has_types q) as (λ b. has_types q ≡ b → None ≡ cond b (Some q) None → has_types q ≡ false) [
  | true ↦ λ e g. cc
  | false ↦ λ e g. e
] refl h

pub not_second : (a b : Bool) → b ≡ false → (a && b) ≡ false
not_second true b h = h
not_second false b h = refl
