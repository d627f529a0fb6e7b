-- What the sink has after an endpoint or a match was added or removed.
use Rattle.std.proofs.Common.{◌≡◌, ℕ, Bool, true, false, cond, not, ◌&&◌, ◌||◌, List, Option, Some, None, is_some, refl, sym, ap, ◌∙◌}
use Rattle.std.specs.declared.cmp.Ordering.TheVariants.{Less, Equal, Greater}
use Rattle.std.specs.Ordering.{is_eq}
use Rattle.std.specs.Cmp.{tied_itself}
use Rattle.std.specs.FinMap.{get, contains_key}
use Rattle.fx_base.specs.Set as set
use Rattle.fx_base.specs.Same.{both_pass}
use Rattle.fx_model.specs.Active.{has_types}
use Rattle.fx_model.specs.Pairs.{Pairs, PolicyPairs}
use Rattle.fx_model.specs.Sinks.{Policies}
use Rattle.fx_model.specs.declared.ids.ItemKey.{ItemKey}
use Rattle.fx_model.specs.declared.ids.PolicyId.{PolicyId}
use Rattle.fx_model.specs.declared.policy.Policy.{Policy}
use Rattle.fx_model.specs.contracts.ids.ItemKeyOrd.TheImpl.{cmp-value}
use Rattle.fx_model.proofs.Orders.{item_total, exact_item}
use Rattle.fx_active.specs.Inputs.{Endpoints}
use Rattle.fx_active.specs.Active.{text_of, holds_somewhere, where_active, applies_to, ArePolicies, ArePairs}
use Rattle.fx_active.specs.Steps.{same_item, IsUpdated}
use Rattle.fx_base.proofs.Cases.{never, surely, opposite}

-- ---- the same endpoints and matches, as far as policies are concerned
module _ (E E' : Endpoints) (M M' : Pairs) (holds : (t : List ℕ) → holds_somewhere E' M' t ≡ holds_somewhere E M t) (pairs : (t : List ℕ) (i : ItemKey) → (contains_key E' i && set.contains M' (t, i)) ≡ (contains_key E i && set.contains M (t, i))) where
  same_where : (o : Option Policy) → where_active E M o ≡ where_active E' M' o
  same_where None = refl
  same_where (Some p) = ap (λ b. cond (has_types p && b) (Some p) None) (sym (holds (text_of p)))

  same_applies : (o : Option Policy) (i : ItemKey) → applies_to E M o i ≡ applies_to E' M' o i
  same_applies None i = refl
  same_applies (Some p) i = ap (λ b. has_types p && b) (sym (pairs (text_of p) i))

  pub policies_stay : (policies P : Policies) → ArePolicies policies E M P → ArePolicies policies E' M' P
  policies_stay policies P was id = was id ∙ same_where (get policies id)

  pub pairs_stay : (policies : Policies) (S : PolicyPairs) → ArePairs policies E M S → ArePairs policies E' M' S
  pairs_stay policies S was id i = was id i ∙ same_applies (get policies id) i

-- ---- one endpoint or match more, and one less
added_at : (t c h : Bool) (o : Option Policy) → cond ((t && c) && not h) o (cond (t && h) o None) ≡ cond (t && (h || c)) o None
added_at false c h o = refl
added_at true false false o = refl
added_at true false true o = refl
added_at true true false o = refl
added_at true true true o = refl

removed_at : (t c h : Bool) (o : Option Policy) → cond ((t && c) && not h) None (cond (t && (h || c)) o None) ≡ cond (t && h) o None
removed_at false c h o = refl
removed_at true false false o = refl
removed_at true false true o = refl
removed_at true true false o = refl
removed_at true true true o = refl

pair_added_at : (t c s x : Bool) → cond ((t && c) && s) true (t && x) ≡ (t && cond (c && s) true x)
pair_added_at false c s x = refl
pair_added_at true c s x = refl

pair_removed_at : (t c s x : Bool) → (c ≡ true → s ≡ true → x ≡ false) → cond ((t && c) && s) false (t && cond (c && s) true x) ≡ (t && x)
pair_removed_at false c s x h = refl
pair_removed_at true false s x h = refl
pair_removed_at true true false x h = refl
pair_removed_at true true true x h = sym (h refl refl)

unless_concerned : {A : Type 0} (t c : Bool) (a b : Bool) (x y : A) → (c ≡ true → a ≡ b) → cond ((t && c) && not a) x y ≡ cond ((t && c) && not b) x y
unless_concerned false c a b x y h = refl
unless_concerned true false a b x y h = refl
unless_concerned true true a b x y h = ap (λ z. cond (not z) x y) (h refl)

pub is_true : (b : Bool) → not b ≡ false → b ≡ true
is_true true h = refl
is_true false h = sym h

pub item_same : (i k : ItemKey) → same_item i k ≡ true → i ≡ k
item_same i k h = elim (cmp-value.it i k) as (λ r. cmp-value.it i k ≡ r → is_eq r ≡ true → i ≡ k) [
  | Less ↦ λ p q. cc
  | Greater ↦ λ p q. cc
  | Equal ↦ λ p q. exact_item i k p
] refl h

pub own_item : (i : ItemKey) → same_item i i ≡ true
own_item i = ap is_eq (tied_itself item_total i)

-- the larger endpoints and matches have one pair more of each policy that passes c, with this item
pub record IsLarger (E : Endpoints) (M : Pairs) (E' : Endpoints) (M' : Pairs) (item : ItemKey) (c : Policy → Bool) : Type 0 where
  pub holds : (p : Policy) → holds_somewhere E' M' (text_of p) ≡ (holds_somewhere E M (text_of p) || c p)
  pub pairs : (p : Policy) (i : ItemKey) → (contains_key E' i && set.contains M' (text_of p, i)) ≡ cond (c p && same_item i item) true (contains_key E i && set.contains M (text_of p, i))
  pub absent : (p : Policy) → c p ≡ true → (contains_key E item && set.contains M (text_of p, item)) ≡ false

-- the tests of the walk read so
pub record IsTest (E : Endpoints) (M : Pairs) (c : Policy → Bool) (concerned others : Option Policy → Bool) : Type 0 where
  pub none : concerned None ≡ false
  pub some : (p : Policy) → concerned (Some p) ≡ (has_types p && c p)
  pub other : (p : Policy) → c p ≡ true → others (Some p) ≡ holds_somewhere E M (text_of p)

module _ (E : Endpoints) (M : Pairs) (E' : Endpoints) (M' : Pairs) (item : ItemKey) (c : Policy → Bool) (l : IsLarger E M E' M' item c) (concerned others : Option Policy → Bool) (t : IsTest E M c concerned others) where
  -- the walk's choice at a policy
  chosen : {A : Type 0} (p : Policy) (x y : A) → cond (concerned (Some p) && not (others (Some p))) x y ≡ cond ((has_types p && c p) && not (holds_somewhere E M (text_of p))) x y
  chosen p x y = ap (λ b. cond (b && not (others (Some p))) x y) (t.some p) ∙ unless_concerned (has_types p) (c p) (others (Some p)) (holds_somewhere E M (text_of p)) x y (t.other p)

  policy_grown : (o : Option Policy) → cond (concerned o && not (others o)) o (where_active E M o) ≡ where_active E' M' o
  policy_grown None = ap (λ b. cond (b && not (others None)) None None) t.none
  policy_grown (Some p) =
      chosen p (Some p) (where_active E M (Some p)) ∙ added_at (has_types p) (c p) (holds_somewhere E M (text_of p)) (Some p)
      ∙ ap (λ b. cond (has_types p && b) (Some p) None) (sym (l.holds p))

  policy_shrunk : (o : Option Policy) → cond (concerned o && not (others o)) None (where_active E' M' o) ≡ where_active E M o
  policy_shrunk None = ap (λ b. cond (b && not (others None)) None None) t.none
  policy_shrunk (Some p) =
      chosen p None (where_active E' M' (Some p)) ∙ ap (λ b. cond ((has_types p && c p) && not (holds_somewhere E M (text_of p))) None (cond (has_types p && b) (Some p) None)) (l.holds p)
      ∙ removed_at (has_types p) (c p) (holds_somewhere E M (text_of p)) (Some p)

  pair_grown : (o : Option Policy) (i : ItemKey) → cond (concerned o && same_item i item) true (applies_to E M o i) ≡ applies_to E' M' o i
  pair_grown None i = ap (λ b. cond (b && same_item i item) true false) t.none
  pair_grown (Some p) i =
      ap (λ b. cond (b && same_item i item) true (applies_to E M (Some p) i)) (t.some p)
      ∙ pair_added_at (has_types p) (c p) (same_item i item) (contains_key E i && set.contains M (text_of p, i))
      ∙ ap (λ b. has_types p && b) (sym (l.pairs p i))

  pair_shrunk : (o : Option Policy) (i : ItemKey) → cond (concerned o && same_item i item) false (applies_to E' M' o i) ≡ applies_to E M o i
  pair_shrunk None i = ap (λ b. cond (b && same_item i item) false false) t.none
  pair_shrunk (Some p) i =
      ap (λ b. cond (b && same_item i item) false (applies_to E' M' (Some p) i)) (t.some p)
      ∙ ap (λ b. cond ((has_types p && c p) && same_item i item) false (has_types p && b)) (l.pairs p i)
      ∙ pair_removed_at (has_types p) (c p) (same_item i item) (contains_key E i && set.contains M (text_of p, i))
      (λ h k. ap (λ n. contains_key E n && set.contains M (text_of p, n)) (item_same i item k) ∙ l.absent p h)

  pair_small : (o : Option Policy) → concerned o ≡ true → applies_to E M o item ≡ false
  pair_small None h = refl
  pair_small (Some p) h = ap (λ b. has_types p && b) (l.absent p (both_pass (has_types p) (c p) (sym (t.some p) ∙ h)).1) ∙ never (has_types p)

  pair_large : (o : Option Policy) → concerned o ≡ true → applies_to E' M' o item ≡ true
  pair_large None h = sym t.none ∙ h
  pair_large (Some p) h =
      let both = both_pass (has_types p) (c p) (sym (t.some p) ∙ h) in
      (λ j. (both.0 j) && l.pairs p item j) ∙ (λ j. cond ((both.1 j) && own_item item j) true (contains_key E item && set.contains M (text_of p, item)))

  policy_small : (o : Option Policy) → (concerned o && not (others o)) ≡ true → is_some (where_active E M o) ≡ false
  policy_small None h = refl
  policy_small (Some p) h =
      let parts = both_pass (concerned (Some p)) (not (others (Some p))) h in
      let both = both_pass (has_types p) (c p) (sym (t.some p) ∙ parts.0) in
      ap (λ b. is_some (cond (has_types p && b) (Some p) None)) (sym (t.other p both.1) ∙ opposite (others (Some p)) parts.1)
      ∙ ap (λ b. is_some (cond b (Some p) None)) (never (has_types p))

  policy_large : (o : Option Policy) → (concerned o && not (others o)) ≡ true → is_some (where_active E' M' o) ≡ true
  policy_large None h = sym t.none ∙ (both_pass (concerned None) (not (others None)) h).0
  policy_large (Some p) h =
      let both = both_pass (has_types p) (c p) (sym (t.some p) ∙ (both_pass (concerned (Some p)) (not (others (Some p))) h).0) in
      (λ j. is_some (cond ((both.0 j) && l.holds p j) (Some p) None))
      ∙ (λ j. is_some (cond (holds_somewhere E M (text_of p) || both.1 j) (Some p) None))
      ∙ ap (λ b. is_some (cond b (Some p) None)) (surely (holds_somewhere E M (text_of p)))

  module _ (policies P : Policies) (S : PolicyPairs) where
    -- it is added
    module _ (was : ArePolicies policies E M P) (had : ArePairs policies E M S) where
      pub pair_absent : (id : PolicyId) → concerned (get policies id) ≡ true → set.contains S (id, item) ≡ false
      pair_absent id h = had id item ∙ pair_small (get policies id) h

      pub policy_absent : (id : PolicyId) → (concerned (get policies id) && not (others (get policies id))) ≡ true → is_some (get P id) ≡ false
      policy_absent id h = ap is_some (was id) ∙ policy_small (get policies id) h

      module _ (P' : Policies) (S' : PolicyPairs) (updated : IsUpdated policies (λ id. concerned (get policies id)) (λ id. others (get policies id)) item true P S P' S') where
        pub policies_grown : ArePolicies policies E' M' P'
        policies_grown id = updated.policies_now id ∙ ap (cond (concerned (get policies id) && not (others (get policies id))) (get policies id)) (was id) ∙ policy_grown (get policies id)

        pub pairs_grown : ArePairs policies E' M' S'
        pairs_grown id i = updated.pairs_now id i ∙ ap (cond (concerned (get policies id) && same_item i item) true) (had id i) ∙ pair_grown (get policies id) i

    -- it is removed
    module _ (was : ArePolicies policies E' M' P) (had : ArePairs policies E' M' S) where
      pub pair_there : (id : PolicyId) → concerned (get policies id) ≡ true → set.contains S (id, item) ≡ true
      pair_there id h = had id item ∙ pair_large (get policies id) h

      pub policy_there : (id : PolicyId) → (concerned (get policies id) && not (others (get policies id))) ≡ true → is_some (get P id) ≡ true
      policy_there id h = ap is_some (was id) ∙ policy_large (get policies id) h

      module _ (P' : Policies) (S' : PolicyPairs) (updated : IsUpdated policies (λ id. concerned (get policies id)) (λ id. others (get policies id)) item false P S P' S') where
        pub policies_shrunk : ArePolicies policies E M P'
        policies_shrunk id = updated.policies_now id ∙ ap (cond (concerned (get policies id) && not (others (get policies id))) None) (was id) ∙ policy_shrunk (get policies id)

        pub pairs_shrunk : ArePairs policies E M S'
        pairs_shrunk id i = updated.pairs_now id i ∙ ap (cond (concerned (get policies id) && same_item i item) false) (had id i) ∙ pair_shrunk (get policies id) i
