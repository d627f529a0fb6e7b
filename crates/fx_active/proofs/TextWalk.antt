-- A walk of the selectors that hold on an item, which brings the policies of each up to date.
use Rattle.std.proofs.Common.{◌≡◌, ℕ, Bool, true, false, cond, not, ◌&&◌, ◌||◌, nat_eq, List, [], ◌∷◌, Option, Some, None, is_some, refl, sym, ap, ◌∙◌}
use Rattle.std.specs.declared.cmp.Ordering.TheVariants.{Less, Equal, Greater}
use Rattle.std.specs.Ordering.{nat_cmp, is_eq}
use Rattle.std.specs.Cmp.Lexicographic.{slice_cmp, pointwise, texts_ties, nat_list_cmp_total}
use Rattle.std.specs.FinMap.{find, get, entries, get-entries}
use Rattle.fx_base.specs.Set as set
use Rattle.fx_base.specs.Same.{same_bytes, both_pass}
use Rattle.fx_base.specs.Grouped.{Texts}
use Rattle.fx_base.proofs.KeyCases.{bytes_exact}
use Rattle.fx_base.proofs.Walk.{IsRest, IsRest-start, IsRest-next, IsRest-head, found}
use Rattle.fx_model.specs.Active.{has_types}
use Rattle.fx_model.specs.Pairs.{Pairs, PolicyPairs}
use Rattle.fx_model.specs.Sinks.{Policies}
use Rattle.fx_model.specs.declared.ids.ItemKey.{ItemKey}
use Rattle.fx_model.specs.declared.ids.PolicyId.{PolicyId}
use Rattle.fx_model.specs.declared.policy.Policy.{Policy}
use Rattle.fx_active.specs.Inputs.{Endpoints}
use Rattle.fx_active.specs.Active.{text_of, holds_somewhere}
use Rattle.fx_active.specs.Steps.{same_item, selects, has_typed_text, holds_of, IsUpdated}
use Rattle.fx_base.proofs.Cases.{never, always, none_else}
use Rattle.fx_base.proofs.Sorted.{gone}

-- ---- two walks, one after the other
again : {A : Type 0} (c a : Bool) (v x : A) → cond (not a) v (cond (c && not a) v x) ≡ cond ((c || true) && not a) v x
again true true v x = refl
again true false v x = refl
again false true v x = refl
again false false v x = refl

twice : {A : Type 0} (c d a b : Bool) (v x : A) → (d ≡ true → b ≡ a) → cond (d && not b) v (cond (c && not a) v x) ≡ cond ((c || d) && not a) v x
twice true false a b v x h = refl
twice false false a b v x h = refl
twice c true a b v x h = ap (λ y. cond (not y) v (cond (c && not a) v x)) (h refl) ∙ again c a v x

pair_twice : (c d s a x : Bool) → cond (d && s) a (cond (c && s) a x) ≡ cond ((c || d) && s) a x
pair_twice true true true a x = refl
pair_twice true true false a x = refl
pair_twice true false s a x = refl
pair_twice false true true a x = refl
pair_twice false true false a x = refl
pair_twice false false s a x = refl

module _ (policies : Policies) (c d e a b : PolicyId → Bool) (item : ItemKey) (added : Bool) (m m' m'' : Policies) (s s' s'' : PolicyPairs) where
  after_both : ((id : PolicyId) → e id ≡ (c id || d id)) → ((id : PolicyId) → d id ≡ true → b id ≡ a id)
      → IsUpdated policies c a item added m s m' s' → IsUpdated policies d b item added m' s' m'' s'' → IsUpdated policies e a item added m s m'' s''
  after_both either same first second = record {
    policies_now = λ id.
        second.policies_now id ∙ ap (cond (d id && not (b id)) (cond added (get policies id) None)) (first.policies_now id)
        ∙ twice (c id) (d id) (a id) (b id) (cond added (get policies id) None) (get m id) (same id)
        ∙ ap (λ x. cond (x && not (a id)) (cond added (get policies id) None) (get m id)) (sym (either id));
    pairs_now = λ id i.
        second.pairs_now id i ∙ ap (cond (d id && same_item i item) added) (first.pairs_now id i)
        ∙ pair_twice (c id) (d id) (same_item i item) added (set.contains s (id, i))
        ∙ ap (λ x. cond (x && same_item i item) added (set.contains s (id, i))) (sym (either id));
  }

-- none is concerned
pub nothing_updated : (policies : Policies) (c a : PolicyId → Bool) (item : ItemKey) (added : Bool) (m : Policies) (s : PolicyPairs) → ((id : PolicyId) → c id ≡ false) → IsUpdated policies c a item added m s m s
nothing_updated policies c a item added m s none = record {
  policies_now = λ id. sym (ap (λ x. cond (x && not (a id)) (cond added (get policies id) None) (get m id)) (none id));
  pairs_now = λ id i. sym (ap (λ x. cond (x && same_item i item) added (set.contains s (id, i))) (none id));
}

-- ---- the walk
abbrev pub Steps : Type 0
Steps = List (List ℕ × Unit {0})

-- the policy's selector is left of the walk
abbrev pub is_left : Steps → Option Policy → Bool
is_left es None = false
is_left es (Some p) = is_some (find (slice_cmp nat_cmp) (text_of p) es)

abbrev pub is_reached : Pairs → ItemKey → Steps → Option Policy → Bool
is_reached M item es o = selects M item o && not (is_left es o)

-- the policies whose selectors are left of the walk of w are as they were, the others are up to date
pub record IsHalfTold (policies : Policies) (E : Endpoints) (M : Pairs) (item : ItemKey) (added : Bool) (m : Policies) (s : PolicyPairs) (w : Texts) (m' : Policies) (s' : PolicyPairs) (es : Steps) : Type 0 where
  pub rest : IsRest w es
  pub updated : IsUpdated policies (λ id. is_reached M item es (get policies id)) (λ id. holds_of E M (get policies id)) item added m s m' s'

out : (a b : Bool) → ((a && b) && not b) ≡ false
out true true = refl
out true false = refl
out false b = refl

module _ (E : Endpoints) (M : Pairs) (item : ItemKey) (w : Texts) (covers : (t : List ℕ) → set.contains w t ≡ set.contains M (t, item)) where
  unreached : (o : Option Policy) → is_reached M item (entries w) o ≡ false
  unreached None = refl
  unreached (Some p) =
      ap (λ x. (has_types p && set.contains M (text_of p, item)) && not x) (sym (ap is_some (get-entries w (text_of p))) ∙ covers (text_of p))
      ∙ out (has_types p) (set.contains M (text_of p, item))

  module _ (e : List ℕ × Unit {0}) (es : Steps) (rest : IsRest w (e ∷ es)) where
    holds_on : set.contains M (e.0, item) ≡ true
    holds_on = sym (covers e.0) ∙ ap is_some (IsRest-head nat_list_cmp_total w e es rest)

    -- a policy of the next selector isn't reached yet
    not_yet : (o : Option Policy) → has_typed_text e.0 o ≡ true → is_reached M item (e ∷ es) o ≡ false
    not_yet None h = refl
    not_yet (Some p) h =
        let at = same_bytes (text_of p) e.0 (both_pass (has_types p) (pointwise nat_eq (text_of p) e.0) h).1 in
        ap (λ t. selects M item (Some p) && not (is_some (find (slice_cmp nat_cmp) t (e ∷ es)))) at
        ∙ ap (λ x. selects M item (Some p) && not (is_some x)) (found nat_list_cmp_total e es)
        ∙ never (selects M item (Some p))

    chosen : (o : Option Policy) → has_typed_text e.0 o ≡ true → selects M item o ≡ true
    chosen None h = h
    chosen (Some p) h =
        let both = both_pass (has_types p) (pointwise nat_eq (text_of p) e.0) h in
        (λ j. (both.0 j) && set.contains M (text_of p, item)) ∙ ap (λ t. set.contains M (t, item)) (same_bytes (text_of p) e.0 both.1) ∙ holds_on

    others_of : (others : Bool) → others ≡ holds_somewhere E M e.0 → (o : Option Policy) → has_typed_text e.0 o ≡ true → others ≡ holds_of E M o
    others_of others is None h = cc
    others_of others is (Some p) h = is ∙ ap (holds_somewhere E M) (sym (same_bytes (text_of p) e.0 (both_pass (has_types p) (pointwise nat_eq (text_of p) e.0) h).1))

    -- with it all of its selector are
    reached_next : (o : Option Policy) → is_reached M item es o ≡ (is_reached M item (e ∷ es) o || has_typed_text e.0 o)
    reached_next None = refl
    reached_next (Some p) =
        let t = text_of p in
        let sel = has_types p && set.contains M (t, item) in
        elim (slice_cmp nat_cmp t e.0) as (λ r. slice_cmp nat_cmp t e.0 ≡ r → (sel && not (is_some (find (slice_cmp nat_cmp) t es))) ≡ ((sel && not (is_some (cond (is_eq r) (Some e.1) (find (slice_cmp nat_cmp) t es)))) || (has_types p && is_eq r))) [
          | Less ↦ λ q. sym (ap (λ b. (sel && not (is_some (find (slice_cmp nat_cmp) t es))) || b) (never (has_types p)) ∙ none_else _)
          | Greater ↦ λ q. sym (ap (λ b. (sel && not (is_some (find (slice_cmp nat_cmp) t es))) || b) (never (has_types p)) ∙ none_else _)
          | Equal ↦ λ q.
              ap (λ x. sel && not (is_some x)) (gone (slice_cmp nat_cmp) bytes_exact e es rest.sorted t q) ∙ always sel
              ∙ ap (λ b. has_types p && b) (ap (λ k. set.contains M (k, item)) (bytes_exact t e.0 q) ∙ holds_on)
              ∙ sym (ap (λ b. b || (has_types p && true)) (never sel))
        ] refl
        ∙ ap (λ b. is_reached M item (e ∷ es) (Some p) || (has_types p && b)) (sym (texts_ties t e.0))

  module _ (policies : Policies) (added : Bool) (m : Policies) (s : PolicyPairs) where
    pub told_start : IsHalfTold policies E M item added m s w m s (entries w)
    told_start = record {
      rest = IsRest-start nat_list_cmp_total w;
      updated = nothing_updated policies _ _ item added m s (λ id. unreached (get policies id));
    }

    module _ (m' : Policies) (s' : PolicyPairs) (e : List ℕ × Unit {0}) (es : Steps) (h : IsHalfTold policies E M item added m s w m' s' (e ∷ es)) where
      pub pair_next : ((id : PolicyId) → selects M item (get policies id) ≡ true → set.contains s (id, item) ≡ not added) → (id : PolicyId) → has_typed_text e.0 (get policies id) ≡ true → set.contains s' (id, item) ≡ not added
      pair_next was id k =
          h.updated.pairs_now id item
          ∙ ap (λ x. cond (x && same_item item item) added (set.contains s (id, item))) (not_yet e es h.rest (get policies id) k)
          ∙ was id (chosen e es h.rest (get policies id) k)

      pub policy_next : (others : Bool) → others ≡ holds_somewhere E M e.0 → ((id : PolicyId) → (selects M item (get policies id) && not (holds_of E M (get policies id))) ≡ true → is_some (get m id) ≡ not added)
          → (id : PolicyId) → (has_typed_text e.0 (get policies id) && not others) ≡ true → is_some (get m' id) ≡ not added
      policy_next others is was id k =
          let both = both_pass (has_typed_text e.0 (get policies id)) (not others) k in
          let other = sym (others_of e es h.rest others is (get policies id) both.0) in
          ap is_some (h.updated.policies_now id
          ∙ ap (λ x. cond (x && not (holds_of E M (get policies id))) (cond added (get policies id) None) (get m id)) (not_yet e es h.rest (get policies id) both.0))
          ∙ was id ((λ j. (chosen e es h.rest (get policies id) both.0 j) && not (other j)) ∙ both.1)

      pub told_next : (others : Bool) → others ≡ holds_somewhere E M e.0 → (m'' : Policies) (s'' : PolicyPairs)
          → IsUpdated policies (λ id. has_typed_text e.0 (get policies id)) (λ id. others) item added m' s' m'' s'' → IsHalfTold policies E M item added m s w m'' s'' es
      told_next others is m'' s'' step = record {
        rest = IsRest-next nat_list_cmp_total bytes_exact w e es h.rest;
        updated = after_both policies (λ id. is_reached M item (e ∷ es) (get policies id)) (λ id. has_typed_text e.0 (get policies id)) (λ id. is_reached M item es (get policies id))
            (λ id. holds_of E M (get policies id)) (λ id. others) item added m m' m'' s s' s''
            (λ id. reached_next e es h.rest (get policies id)) (λ id k. others_of e es h.rest others is (get policies id) k) h.updated step;
      }

    unleft : (o : Option Policy) → is_reached M item [] o ≡ selects M item o
    unleft None = refl
    unleft (Some p) = always _

    pub told_end : (m' : Policies) (s' : PolicyPairs) → IsHalfTold policies E M item added m s w m' s' [] → IsUpdated policies (λ id. selects M item (get policies id)) (λ id. holds_of E M (get policies id)) item added m s m' s'
    told_end m' s' h = record {
      policies_now = λ id. h.updated.policies_now id ∙ ap (λ x. cond (x && not (holds_of E M (get policies id))) (cond added (get policies id) None) (get m id)) (unleft (get policies id));
      pairs_now = λ id i. h.updated.pairs_now id i ∙ ap (λ x. cond (x && same_item i item) added (set.contains s (id, i))) (unleft (get policies id));
    }
