-- What is to stand at places after a tier came to stand at another order, and a walk that moves its policies.
use Rattle.std.proofs.Common.{◌≡◌, ℕ, Bool, true, false, cond, ◌||◌, List, [], ◌∷◌, Option, Some, None, is_some, refl, sym, ap, ◌∙◌, subst}
use Rattle.std.specs.declared.cmp.Ordering.TheVariants.{Less, Equal, Greater}
use Rattle.std.specs.Ordering.{is_eq}
use Rattle.std.specs.Cmp.{eq_by_cmp_equiv}
use Rattle.std.specs.Cmp.Lexicographic.{nat_list_cmp_total}
use Rattle.std.specs.FinMap as map
use Rattle.fx_base.specs.Set as set
use Rattle.fx_base.specs.Grouped.{same_text}
use Rattle.fx_base.proofs.KeyCases.{bytes_exact}
use Rattle.fx_base.proofs.SetAt.{contains_insert}
use Rattle.fx_base.proofs.Walk.{IsRest, IsRest-start, IsRest-next, IsRest-head, found}
use Rattle.fx_base.proofs.Keyed.{one_key, own_key, at_key}
use Rattle.fx_base.proofs.Sorted.{gone}
use Rattle.fx_model.specs.Pairs.{PolicyPairs}
use Rattle.fx_model.specs.declared.ids.ItemKey.{ItemKey}
use Rattle.fx_model.specs.declared.ids.PolicyId.{PolicyId}
use Rattle.fx_model.specs.declared.tier_order.TierStand.{TierStand}
use Rattle.fx_model.specs.declared.tier_order.PolicyPlace.{PolicyPlace}
use Rattle.fx_model.specs.contracts.ids.ItemKeyOrd.TheImpl as item_cmp
use Rattle.fx_model.specs.contracts.ids.PolicyIdOrd.TheImpl as policy_cmp
use Rattle.fx_model.specs.Directions.{Direction, Ingress, Egress}
use Rattle.fx_model.proofs.Orders.{policy_total, exact_policy, item_total, exact_item, place_total, exact_place}
use Rattle.fx_resolver.specs.declared.known.KnownPolicy.{KnownPolicy}
use Rattle.fx_resolver.specs.declared.lists.ItemLists.{ItemLists}
use Rattle.fx_resolver.specs.declared.placed.PlacedPolicy.{PlacedPolicy}
use Rattle.fx_resolver.specs.Indexes.{Ids, Items, same_id, same_item, is_in_tier}
use Rattle.fx_resolver.specs.Known.{KnownPolicies}
use Rattle.fx_resolver.specs.Lists.{AllLists, AreLists, item_lists, list_of, moved}
use Rattle.fx_resolver.specs.Placed.{TierStands, placed, shown, at_place, with_stand}
use Rattle.fx_resolver.proofs.Moves.{get_moved}
use Rattle.fx_resolver.proofs.Placing.{own_place, at_own}

-- lists with the same at each place are one
pub same_lists : (l l' : ItemLists) → ((d : Direction) (q : PolicyPlace) → map.get (list_of d l) q ≡ map.get (list_of d l') q) → l ≡ l'
same_lists l l' h = λ j. record {
  ingress = map.same_map place_total exact_place l.ingress l'.ingress (h Ingress) j;
  egress = map.same_map place_total exact_place l.egress l'.egress (h Egress) j;
}

swapped : (t u : List ℕ) → same_text t u ≡ same_text u t
swapped t u = (eq_by_cmp_equiv nat_list_cmp_total).symm t u

-- a tier that stands at this order already
pub same_orders : (orders : TierStands) (name : List ℕ) (at : TierStand) → orders name ≡ at → orders ≡ with_stand orders name at
same_orders orders name at h = λ j t. sym (at_key bytes_exact orders name t at h) j

module _ (orders : TierStands) (name : List ℕ) (at : TierStand) (id : PolicyId) where
  -- a policy of the tier, and one of another tier
  placed_in : (o : Option KnownPolicy) → is_in_tier name o ≡ true → placed (with_stand orders name at) id o ≡ placed (λ _. at) id o
  placed_in None h = cc
  placed_in (Some p) h = ap (λ b. placed (λ _. cond b at (orders p.tier)) id (Some p)) (swapped p.tier name ∙ h)

  placed_other : (o : Option KnownPolicy) → is_in_tier name o ≡ false → placed (with_stand orders name at) id o ≡ placed orders id o
  placed_other None h = refl
  placed_other (Some p) h = ap (λ b. placed (λ _. cond b at (orders p.tier)) id (Some p)) (swapped p.tier name ∙ h)

placed_by : (orders : TierStands) (name : List ℕ) (at : TierStand) → orders name ≡ at → (id : PolicyId) (o : Option KnownPolicy) → is_in_tier name o ≡ true → placed orders id o ≡ placed (λ _. at) id o
placed_by orders name at h id o is = ap (λ (f : TierStands). placed f id o) (same_orders orders name at h) ∙ placed_in orders name at id o is

module _ (orders : TierStands) (policies : KnownPolicies) (pairs : PolicyPairs) (name : List ℕ) where
  -- without a policy in the tier, no place changes
  pub none_in : (at : TierStand) (lists : AllLists) → ((id : PolicyId) → is_in_tier name (map.get policies id) ≡ false) → AreLists orders policies pairs lists → AreLists (with_stand orders name at) policies pairs lists
  none_in at lists none are d i q =
      are d i q ∙ ap (λ o. cond (set.contains pairs (q.id, i)) (shown d o q) None) (sym (placed_other orders name at q.id (map.get policies q.id) (none q.id)))

  module _ (ids : Ids) (own : (id : PolicyId) → set.contains ids id ≡ is_in_tier name (map.get policies id)) (lists : AllLists) (are : AreLists orders policies pairs lists) where
    -- the places of the tier's policies before
    pub places_before : (before : TierStand) → orders name ≡ before → (d : Direction) (i : ItemKey) (q : PolicyPlace) → set.contains ids q.id ≡ true → map.get (list_of d (item_lists lists i)) q ≡ at_place (λ _. before) policies pairs d i q
    places_before before h d i q is =
        are d i q ∙ ap (λ o. cond (set.contains pairs (q.id, i)) (shown d o q) None) (placed_by orders name before h q.id (map.get policies q.id) (sym (own q.id) ∙ is))

    module _ (after : TierStand) (now : AllLists) (moves : (d : Direction) (i : ItemKey) (q : PolicyPlace) → map.get (list_of d (item_lists now i)) q ≡ cond (set.contains ids q.id) (at_place (λ _. after) policies pairs d i q) (map.get (list_of d (item_lists lists i)) q)) where
      pub tier_moved : AreLists (with_stand orders name after) policies pairs now
      tier_moved d i q =
          moves d i q
          ∙ elim (set.contains ids q.id) as (λ b. set.contains ids q.id ≡ b → cond b (at_place (λ _. after) policies pairs d i q) (map.get (list_of d (item_lists lists i)) q) ≡ at_place (with_stand orders name after) policies pairs d i q) [
            | true ↦ λ h. ap (λ o. cond (set.contains pairs (q.id, i)) (shown d o q) None) (sym (placed_in orders name after q.id (map.get policies q.id) (sym (own q.id) ∙ h)))
            | false ↦ λ h. are d i q ∙ ap (λ o. cond (set.contains pairs (q.id, i)) (shown d o q) None) (sym (placed_other orders name after q.id (map.get policies q.id) (sym (own q.id) ∙ h)))
          ] refl

      -- an item to which no policy of the tier applies
      pub tier_idle : (i : ItemKey) → ((id : PolicyId) → set.contains ids id ≡ true → set.contains pairs (id, i) ≡ false) → item_lists lists i ≡ item_lists now i
      tier_idle i none = same_lists (item_lists lists i) (item_lists now i) (λ d q.
          elim (set.contains ids q.id) as (λ b. set.contains ids q.id ≡ b → map.get (list_of d (item_lists lists i)) q ≡ cond b (at_place (λ _. after) policies pairs d i q) (map.get (list_of d (item_lists lists i)) q)) [
            | true ↦ λ h.
                are d i q ∙ ap (λ b. cond b (shown d (placed orders q.id (map.get policies q.id)) q) None) (none q.id h)
                ∙ sym (ap (λ b. cond b (shown d (placed (λ _. after) q.id (map.get policies q.id)) q) None) (none q.id h))
            | false ↦ λ h. refl
          ] refl
          ∙ sym (moves d i q))

-- ---- a walk of the tier's policies

as_it_was : {A : Type 0} (b : Bool) (x y : A) → x ≡ cond b x (cond b y x)
as_it_was true x y = refl
as_it_was false x y = refl

-- at the places of the policies that are left stands what stood there before the walk, at those of the others what is to stand there
pub record IsHalfReordered (after : TierStand) (policies : KnownPolicies) (pairs : PolicyPairs) (ids : Ids) (lists now : AllLists) (es : List (PolicyId × Unit {0})) : Type 0 where
  pub rest : IsRest ids es
  pub at : (d : Direction) (i : ItemKey) (q : PolicyPlace) → map.get (list_of d (item_lists now i)) q
      ≡ cond (is_some (map.find policy_cmp.cmp-value.it q.id es)) (map.get (list_of d (item_lists lists i)) q)
      (cond (set.contains ids q.id) (at_place (λ _. after) policies pairs d i q) (map.get (list_of d (item_lists lists i)) q))

module _ (before after : TierStand) (policies : KnownPolicies) (pairs : PolicyPairs) (ids : Ids) (lists : AllLists)
    (were : (d : Direction) (i : ItemKey) (q : PolicyPlace) → set.contains ids q.id ≡ true → map.get (list_of d (item_lists lists i)) q ≡ at_place (λ _. before) policies pairs d i q) where
  pub reordered_start : IsHalfReordered after policies pairs ids lists lists (map.entries ids)
  reordered_start = record {
    rest = IsRest-start policy_total ids;
    at = λ d i q.
        as_it_was (set.contains ids q.id) (map.get (list_of d (item_lists lists i)) q) (at_place (λ _. after) policies pairs d i q)
        ∙ ap (λ o. cond (is_some o) (map.get (list_of d (item_lists lists i)) q) (cond (set.contains ids q.id) (at_place (λ _. after) policies pairs d i q) (map.get (list_of d (item_lists lists i)) q))) (map.get-entries ids q.id);
  }

  module _ (now : AllLists) (e : PolicyId × Unit {0}) (es : List (PolicyId × Unit {0})) (h : IsHalfReordered after policies pairs ids lists now (e ∷ es)) where
    abbrev from : Option PlacedPolicy
    from = placed (λ _. before) e.0 (map.get policies e.0)

    abbrev to : Option PlacedPolicy
    to = placed (λ _. after) e.0 (map.get policies e.0)

    there : set.contains ids e.0 ≡ true
    there = ap is_some (IsRest-head policy_total ids e es h.rest)

    -- the policy's places are as they were
    still : (d : Direction) (i : ItemKey) (q : PolicyPlace) → same_id q.id e.0 ≡ true → map.get (list_of d (item_lists now i)) q ≡ cond (set.contains pairs (e.0, i)) (shown d from q) None
    still d i q is =
        let same : q.id ≡ e.0 = one_key exact_policy q.id e.0 is in
        let left : is_some (map.find policy_cmp.cmp-value.it q.id (e ∷ es)) ≡ true = ap (λ u. is_some (map.find policy_cmp.cmp-value.it u (e ∷ es))) same ∙ ap is_some (found policy_total e es) in
        h.at d i q ∙ ap (λ b. cond b (map.get (list_of d (item_lists lists i)) q) (cond (set.contains ids q.id) (at_place (λ _. after) policies pairs d i q) (map.get (list_of d (item_lists lists i)) q))) left
        ∙ were d i q (ap (set.contains ids) same ∙ there) ∙ at_own (λ _. before) policies pairs d i e.0 q is

    module _ (then : AllLists) (moves : (i : ItemKey) → item_lists then i ≡ cond (set.contains pairs (e.0, i)) (moved from to (item_lists now i)) (item_lists now i)) where
      -- its places have what is to stand there, all others are as they were
      step : (d : Direction) (i : ItemKey) (q : PolicyPlace) → map.get (list_of d (item_lists then i)) q ≡ cond (same_id q.id e.0) (at_place (λ _. after) policies pairs d i q) (map.get (list_of d (item_lists now i)) q)
      step d i q = by_pair (set.contains pairs (e.0, i)) refl
        where
          at_id : (b : Bool) → set.contains pairs (e.0, i) ≡ b → same_id q.id e.0 ≡ true → at_place (λ _. after) policies pairs d i q ≡ cond b (shown d to q) None
          at_id b is same = at_own (λ _. after) policies pairs d i e.0 q same ∙ ap (λ c. cond c (shown d to q) None) is

          by_pair : (b : Bool) → set.contains pairs (e.0, i) ≡ b → map.get (list_of d (item_lists then i)) q ≡ cond (same_id q.id e.0) (at_place (λ _. after) policies pairs d i q) (map.get (list_of d (item_lists now i)) q)
          by_pair true is =
              ap (λ l. map.get (list_of d l) q) (moves i ∙ ap (λ b. cond b (moved from to (item_lists now i)) (item_lists now i)) is)
              ∙ get_moved d (item_lists now i) e.0 from to (own_place (λ _. before) e.0 (map.get policies e.0)) (own_place (λ _. after) e.0 (map.get policies e.0))
              (λ r same. still d i r same ∙ ap (λ b. cond b (shown d from r) None) is) q
              ∙ elim (same_id q.id e.0) as (λ c. same_id q.id e.0 ≡ c → cond c (shown d to q) (map.get (list_of d (item_lists now i)) q) ≡ cond c (at_place (λ _. after) policies pairs d i q) (map.get (list_of d (item_lists now i)) q)) [
                | true ↦ λ same. sym (at_id true is same)
                | false ↦ λ other. refl
              ] refl
          by_pair false is =
              ap (λ l. map.get (list_of d l) q) (moves i ∙ ap (λ b. cond b (moved from to (item_lists now i)) (item_lists now i)) is)
              ∙ elim (same_id q.id e.0) as (λ c. same_id q.id e.0 ≡ c → map.get (list_of d (item_lists now i)) q ≡ cond c (at_place (λ _. after) policies pairs d i q) (map.get (list_of d (item_lists now i)) q)) [
                | true ↦ λ same. still d i q same ∙ ap (λ b. cond b (shown d from q) None) is ∙ sym (at_id false is same)
                | false ↦ λ other. refl
              ] refl

      pub reordered_next : IsHalfReordered after policies pairs ids lists then es
      reordered_next = record {
        rest = IsRest-next policy_total exact_policy ids e es h.rest;
        at = λ d i q.
            step d i q
            ∙ elim (policy_cmp.cmp-value.it q.id e.0) as (λ r. policy_cmp.cmp-value.it q.id e.0 ≡ r → cond (is_eq r) (at_place (λ _. after) policies pairs d i q) (map.get (list_of d (item_lists now i)) q)
            ≡ cond (is_some (map.find policy_cmp.cmp-value.it q.id es)) (map.get (list_of d (item_lists lists i)) q) (cond (set.contains ids q.id) (at_place (λ _. after) policies pairs d i q) (map.get (list_of d (item_lists lists i)) q))) [
              | Less ↦ λ p. left d i q (ap is_eq p)
              | Equal ↦ λ p.
                  sym (ap (λ o. cond (is_some o) (map.get (list_of d (item_lists lists i)) q) (cond (set.contains ids q.id) (at_place (λ _. after) policies pairs d i q) (map.get (list_of d (item_lists lists i)) q))) (gone policy_cmp.cmp-value.it exact_policy e es h.rest.sorted q.id p)
                  ∙ ap (λ b. cond b (at_place (λ _. after) policies pairs d i q) (map.get (list_of d (item_lists lists i)) q)) (ap (set.contains ids) (exact_policy q.id e.0 p) ∙ there))
              | Greater ↦ λ p. left d i q (ap is_eq p)
            ] refl;
      }
        where
          left : (d : Direction) (i : ItemKey) (q : PolicyPlace) → same_id q.id e.0 ≡ false → map.get (list_of d (item_lists now i)) q
              ≡ cond (is_some (map.find policy_cmp.cmp-value.it q.id es)) (map.get (list_of d (item_lists lists i)) q) (cond (set.contains ids q.id) (at_place (λ _. after) policies pairs d i q) (map.get (list_of d (item_lists lists i)) q))
          left d i q other =
              h.at d i q ∙ ap (λ b. cond (is_some (cond b (Some e.1) (map.find policy_cmp.cmp-value.it q.id es))) (map.get (list_of d (item_lists lists i)) q) (cond (set.contains ids q.id) (at_place (λ _. after) policies pairs d i q) (map.get (list_of d (item_lists lists i)) q))) other

-- a policy that isn't there moves nowhere
pub nowhere : (before after : TierStand) (id : PolicyId) (o : Option KnownPolicy) → o ≡ None → (b : Bool) (l : ItemLists) → l ≡ cond b (moved (placed (λ _. before) id o) (placed (λ _. after) id o) l) l
nowhere before after id o none b l =
    unmoved b ∙ ap (λ p. cond b (moved (placed (λ _. before) id p) (placed (λ _. after) id p) l) l) (sym none)
  where
    unmoved : (c : Bool) → l ≡ cond c (moved None None l) l
    unmoved true = refl
    unmoved false = refl

-- ---- the items of the tier's policies

later : (b : Bool) → true ≡ (b || true)
later true = refl
later false = refl

-- one more item is added
pub item_added : (items now : Items) (e : ItemKey × Unit {0}) (es : List (ItemKey × Unit {0})) → now ≡ set.insert items e.0 → (i : ItemKey)
    → (is_some (map.find item_cmp.cmp-value.it i (e ∷ es)) || set.contains items i) ≡ (is_some (map.find item_cmp.cmp-value.it i es) || set.contains now i)
item_added items now e es is i =
    by_test (same_item i e.0)
    ∙ ap (λ b. is_some (map.find item_cmp.cmp-value.it i es) || b) (sym (ap (λ s. set.contains s i) is ∙ contains_insert item_total items e.0 i))
  where
    by_test : (b : Bool) → (is_some (cond b (Some e.1) (map.find item_cmp.cmp-value.it i es)) || set.contains items i) ≡ (is_some (map.find item_cmp.cmp-value.it i es) || cond b true (set.contains items i))
    by_test true = later (is_some (map.find item_cmp.cmp-value.it i es))
    by_test false = refl

-- the items of the policies that are not left are there
abbrev pub AreCovered : Ids → PolicyPairs → Items → List (PolicyId × Unit {0}) → Type 0
AreCovered ids pairs items es = (id : PolicyId) (i : ItemKey) → set.contains ids id ≡ true → is_some (map.find policy_cmp.cmp-value.it id es) ≡ false → set.contains pairs (id, i) ≡ true → set.contains items i ≡ true

module _ (ids : Ids) (pairs : PolicyPairs) where
  pub covered_start : (items : Items) → AreCovered ids pairs items (map.entries ids)
  covered_start items id i is left pair = let bad : true ≡ false = sym is ∙ ap is_some (map.get-entries ids id) ∙ left in cc

  either : (a b : Bool) → b ≡ true → (a || b) ≡ true
  either true b h = refl
  either false b h = h

  first : (a b : Bool) → a ≡ true → (a || b) ≡ true
  first true b h = refl
  first false b h = cc

  pub covered_next : (items now : Items) (e : PolicyId × Unit {0}) (es : List (PolicyId × Unit {0})) (more : ItemKey → Bool) → ((i : ItemKey) → more i ≡ set.contains pairs (e.0, i)) → ((i : ItemKey) → set.contains now i ≡ (more i || set.contains items i))
      → AreCovered ids pairs items (e ∷ es) → AreCovered ids pairs now es
  covered_next items now e es more own added was id i is left pair =
      added i
      ∙ elim (policy_cmp.cmp-value.it id e.0) as (λ r. policy_cmp.cmp-value.it id e.0 ≡ r → (more i || set.contains items i) ≡ true) [
        | Less ↦ λ p. either (more i) (set.contains items i) (was id i is (ap (λ r. is_some (cond (is_eq r) (Some e.1) (map.find policy_cmp.cmp-value.it id es))) p ∙ left) pair)
        | Equal ↦ λ p. first (more i) (set.contains items i) (own i ∙ ap (λ (u : PolicyId). set.contains pairs (u, i)) (sym (exact_policy id e.0 p)) ∙ pair)
        | Greater ↦ λ p. either (more i) (set.contains items i) (was id i is (ap (λ r. is_some (cond (is_eq r) (Some e.1) (map.find policy_cmp.cmp-value.it id es))) p ∙ left) pair)
      ] refl
