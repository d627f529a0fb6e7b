-- A walk of some endpoints that brings the pairs of one policy with them up to date.
use Rattle.std.proofs.Common.{◌≡◌, Bool, true, false, cond, ◌&&◌, List, [], ◌∷◌, is_some, refl, sym, ap, ◌∙◌}
use Rattle.std.specs.declared.cmp.Ordering.TheVariants.{Less, Equal, Greater}
use Rattle.std.specs.Ordering.{is_eq}
use Rattle.std.specs.Cmp.{tied_itself}
use Rattle.std.specs.FinMap.{get, remove, entries, get-entries}
use Rattle.fx_base.specs.Set as set
use Rattle.fx_base.proofs.Walk.{IsRest, IsHalf, IsRest-start, IsRest-next, IsRest-head, IsHalf-head, IsHalf-next}
use Rattle.fx_model.specs.Pairs.{PolicyPairs, put}
use Rattle.fx_model.specs.Sinks.{Policies}
use Rattle.fx_model.specs.declared.ids.ItemKey.{ItemKey}
use Rattle.fx_model.specs.declared.ids.PolicyId.{PolicyId}
use Rattle.fx_model.specs.contracts.ids.ItemKeyOrd.TheImpl as item_cmp
use Rattle.fx_model.specs.contracts.ids.PolicyIdOrd.TheImpl as policy_cmp
use Rattle.fx_model.proofs.Orders.{item_total, exact_item, policy_total, exact_policy}
use Rattle.fx_model.proofs.PairAt.{contains_put_policy_pair}
use Rattle.fx_active.specs.Steps.{same_id, same_item, IsRowSet}
use Rattle.fx_base.proofs.Cases.{absent_value, never}
use Rattle.fx_base.proofs.Keyed.{remove_absent}

-- what isn't there stays away
pub gone_already : (m : Policies) (id : PolicyId) → is_some (get m id) ≡ false → m ≡ remove m id
gone_already m id h = sym (remove_absent policy_total exact_policy m id (absent_value (get m id) h))

abbrev pub Items : Type 0
Items = set.Set item_cmp.cmp-value.it

abbrev pub item_row : PolicyPairs → ItemKey → PolicyId → Bool
item_row s i q = set.contains s (q, i)

abbrev pub row_after : (ItemKey → Bool) → (ItemKey → Bool) → PolicyId → PolicyPairs → ItemKey → PolicyId → Bool
row_after row after id s i q = cond (same_id q id && row i) (after i) (set.contains s (q, i))

-- the pairs with the endpoints that are left are as they were, the others are up to date
pub record IsHalfPaired (row after : ItemKey → Bool) (id : PolicyId) (s s' : PolicyPairs) (w : Items) (es : List (ItemKey × Unit {0})) : Type 0 where
  pub rest : IsRest w es
  pub half : IsHalf item_cmp.cmp-value.it (item_row s) (row_after row after id s) (item_row s') es

module _ (after : ItemKey → Bool) (id : PolicyId) (s : PolicyPairs) (w : Items) where
  abbrev row : ItemKey → Bool
  row i = set.contains w i

  pub pairs_start : IsHalfPaired row after id s s w (entries w)
  pairs_start = record {
    rest = IsRest-start item_total w;
    half = record {
      at = λ i q.
          elim (set.contains w i) as (λ b. set.contains w i ≡ b → set.contains s (q, i) ≡ cond b (set.contains s (q, i)) (row_after row after id s i q)) [
            | true ↦ λ e. refl
            | false ↦ λ e. sym (ap (λ b. cond b (after i) (set.contains s (q, i))) (ap (λ b. same_id q id && b) e ∙ never (same_id q id)))
          ] refl
          ∙ ap (λ o. cond (is_some o) (set.contains s (q, i)) (row_after row after id s i q)) (get-entries w i);
    };
  }

  module _ (s' : PolicyPairs) (e : ItemKey × Unit {0}) (es : List (ItemKey × Unit {0})) (h : IsHalfPaired row after id s s' w (e ∷ es)) where
    head : (q : PolicyId) → set.contains s' (q, e.0) ≡ set.contains s (q, e.0)
    head q = IsHalf-head item_total exact_item (item_row s) (row_after row after id s) (item_row s') e es h.half q

    here : row e.0 ≡ true
    here = ap is_some (IsRest-head item_total w e es h.rest)

    pub pair_was : (before : ItemKey → Bool) → ((i : ItemKey) → row i ≡ true → set.contains s (id, i) ≡ before i) → set.contains s' (id, e.0) ≡ before e.0
    pair_was before was = head id ∙ was e.0 here

    pub pairs_next : (s'' : PolicyPairs) → s'' ≡ put s' (id, e.0) (after e.0) → IsHalfPaired row after id s s'' w es
    pairs_next s'' are =
        let now = after e.0 in
        let pair : (q : PolicyId) (i : ItemKey) → set.contains s'' (q, i) ≡ cond (same_id q id && same_item i e.0) now (set.contains s' (q, i)) =
        λ q i. ap (λ k. set.contains k (q, i)) are ∙ contains_put_policy_pair s' id e.0 now q i in
        record {
          rest = IsRest-next item_total exact_item w e es h.rest;
          half = IsHalf-next item_total exact_item (item_row s) (row_after row after id s) w (item_row s') (item_row s'') e es h.rest h.half
              (λ q. pair q e.0
              ∙ (λ j. cond (same_id q id && is_eq (tied_itself item_total e.0 j)) now (head q j))
              ∙ ap (λ b. cond (same_id q id && b) now (set.contains s (q, e.0))) (sym here))
              (λ i q n. pair q i ∙ ap (λ b. cond (same_id q id && b) now (set.contains s' (q, i))) n ∙ ap (λ b. cond b now (set.contains s' (q, i))) (never (same_id q id)));
        }

pub pairs_end : (row after : ItemKey → Bool) (id : PolicyId) (s s' : PolicyPairs) (w : Items) → IsHalfPaired row after id s s' w []
    → (q : PolicyId) (i : ItemKey) → set.contains s' (q, i) ≡ cond (same_id q id && row i) (after i) (set.contains s (q, i))
pairs_end row after id s s' w h q i = h.half.at i q

-- ---- first the endpoints to which it applied, then those to which it applies
module _ (before after : ItemKey → Bool) (id : PolicyId) (s s' s'' : PolicyPairs) (was : (i : ItemKey) → set.contains s (id, i) ≡ before i)
    (first : (q : PolicyId) (i : ItemKey) → set.contains s' (q, i) ≡ cond (same_id q id && before i) (after i) (set.contains s (q, i))) where
  own : same_id id id ≡ true
  own = ap is_eq (tied_itself policy_total id)

  still_at : (b a : Bool) → a ≡ true → cond b a b ≡ b
  still_at true a h = h
  still_at false a h = refl

  pub still_paired : (i : ItemKey) → after i ≡ true → set.contains s' (id, i) ≡ before i
  still_paired i h =
      first id i ∙ (λ j. cond (own j && before i) (after i) (was i j)) ∙ still_at (before i) (after i) h

  whole_at : (b a : Bool) → cond a a (cond b a b) ≡ a
  whole_at true true = refl
  whole_at true false = refl
  whole_at false true = refl
  whole_at false false = refl

  pub row_set : ((q : PolicyId) (i : ItemKey) → set.contains s'' (q, i) ≡ cond (same_id q id && after i) (after i) (set.contains s' (q, i))) → IsRowSet id after s s''
  row_set second q i =
      second q i ∙ ap (cond (same_id q id && after i) (after i)) (first q i)
      ∙ elim (policy_cmp.cmp-value.it q id) as (λ r. policy_cmp.cmp-value.it q id ≡ r → cond (is_eq r && after i) (after i) (cond (is_eq r && before i) (after i) (set.contains s (q, i))) ≡ cond (is_eq r) (after i) (set.contains s (q, i))) [
        | Less ↦ λ e. refl
        | Equal ↦ λ e. ap (λ x. cond (after i) (after i) (cond (before i) (after i) x)) (ap (λ k. set.contains s (k, i)) (exact_policy q id e) ∙ was i) ∙ whole_at (before i) (after i)
        | Greater ↦ λ e. refl
      ] refl
