-- What is to stand at places after a change, and the lists that are such.
use Rattle.std.proofs.Common.{◌≡◌, ℕ, Bool, true, false, cond, not, ◌&&◌, List, Option, Some, None, refl, sym, ap, ◌∙◌, subst}
use Rattle.std.specs.FinMap as map
use Rattle.fx_base.specs.Extended.{put_or_removed}
use Rattle.fx_base.specs.Set as set
use Rattle.fx_base.specs.Grouped.{has_key}
use Rattle.fx_base.proofs.Keyed.{one_key, at_key}
use Rattle.fx_model.specs.Pairs.{PolicyPairs, put}
use Rattle.fx_model.specs.declared.ids.ItemKey.{ItemKey}
use Rattle.fx_model.specs.declared.ids.PolicyId.{PolicyId}
use Rattle.fx_model.specs.declared.tier_order.TierStand.{TierStand}
use Rattle.fx_model.specs.declared.tier_order.PolicyPlace.{PolicyPlace}
use Rattle.fx_model.specs.Directions.{Direction}
use Rattle.fx_model.proofs.Orders.{policy_total, exact_policy, exact_item}
use Rattle.fx_model.proofs.PairAt.{contains_put_policy_pair}
use Rattle.fx_resolver.specs.declared.known.KnownPolicy.{KnownPolicy}
use Rattle.fx_resolver.specs.declared.lists.ItemLists.{ItemLists}
use Rattle.fx_resolver.specs.declared.placed.PlacedPolicy.{PlacedPolicy}
use Rattle.fx_resolver.specs.Indexes.{same_id, same_item}
use Rattle.fx_resolver.specs.Known.{KnownPolicies}
use Rattle.fx_resolver.specs.Lists.{AllLists, AreLists, item_lists, list_of, moved}
use Rattle.fx_resolver.specs.Placed.{TierStands, placed, shown, at_place}
use Rattle.fx_resolver.proofs.Moves.{HasId, get_moved, not_shown}

pub own_place : (orders : TierStands) (id : PolicyId) (o : Option KnownPolicy) → HasId id (placed orders id o)
own_place orders id None = tt
own_place orders id (Some p) = refl

get_either : (policies : KnownPolicies) (id : PolicyId) (o : Option KnownPolicy) (q : PolicyId) → map.get (put_or_removed policies id o) q ≡ cond (same_id q id) o (map.get policies q)
get_either policies id (Some p) q = map.get-insert policy_total policies id p q
get_either policies id None q = map.get-remove policy_total policies id q

module _ (orders : TierStands) (policies : KnownPolicies) (pairs : PolicyPairs) (d : Direction) (i : ItemKey) where
  -- what stands at the places of one policy
  pub at_own : (id : PolicyId) (q : PolicyPlace) → same_id q.id id ≡ true → at_place orders policies pairs d i q ≡ cond (set.contains pairs (id, i)) (shown d (placed orders id (map.get policies id)) q) None
  at_own id q h = ap (λ (u : PolicyId). cond (set.contains pairs (u, i)) (shown d (placed orders u (map.get policies u)) q) None) (one_key exact_policy q.id id h)

-- ---- a policy that changes
module _ (orders : TierStands) (policies : KnownPolicies) (pairs : PolicyPairs) (id : PolicyId) (o : Option KnownPolicy) (lists now : AllLists) where
  abbrev before : Option PlacedPolicy
  before = placed orders id (map.get policies id)

  abbrev after : Option PlacedPolicy
  after = placed orders id o

  policy_at : (d : Direction) (i : ItemKey) (q : PolicyPlace) → at_place orders (put_or_removed policies id o) pairs d i q ≡ cond (same_id q.id id) (cond (set.contains pairs (id, i)) (shown d after q) None) (at_place orders policies pairs d i q)
  policy_at d i q =
      ap (λ x. cond (set.contains pairs (q.id, i)) (shown d (placed orders q.id x) q) None) (get_either policies id o q.id)
      ∙ elim (same_id q.id id) as (λ b. same_id q.id id ≡ b → cond (set.contains pairs (q.id, i)) (shown d (placed orders q.id (cond b o (map.get policies q.id))) q) None ≡ cond b (cond (set.contains pairs (id, i)) (shown d after q) None) (at_place orders policies pairs d i q)) [
        | true ↦ λ h. ap (λ (u : PolicyId). cond (set.contains pairs (u, i)) (shown d (placed orders u o) q) None) (one_key exact_policy q.id id h)
        | false ↦ λ h. refl
      ] refl

  module _ (are : AreLists orders policies pairs lists) (keys : ItemKey → Bool) (own : (i : ItemKey) → keys i ≡ set.contains pairs (id, i))
      (moves : (i : ItemKey) → item_lists now i ≡ cond (keys i) (moved before after (item_lists lists i)) (item_lists lists i)) where
    here : (i : ItemKey) → set.contains pairs (id, i) ≡ true → (d : Direction) (q : PolicyPlace) → map.get (list_of d (item_lists now i)) q ≡ cond (same_id q.id id) (shown d after q) (at_place orders policies pairs d i q)
    here i is d q =
        ap (λ l. map.get (list_of d l) q) (moves i ∙ ap (λ b. cond b (moved before after (item_lists lists i)) (item_lists lists i)) (own i ∙ is))
        ∙ get_moved d (item_lists lists i) id before after (own_place orders id (map.get policies id)) (own_place orders id o)
        (λ r h. are d i r ∙ at_own orders policies pairs d i id r h ∙ ap (λ b. cond b (shown d before r) None) is) q
        ∙ ap (cond (same_id q.id id) (shown d after q)) (are d i q)

    away : (i : ItemKey) → set.contains pairs (id, i) ≡ false → (d : Direction) (q : PolicyPlace) → map.get (list_of d (item_lists now i)) q ≡ at_place orders policies pairs d i q
    away i isnt d q =
        ap (λ l. map.get (list_of d l) q) (moves i ∙ ap (λ b. cond b (moved before after (item_lists lists i)) (item_lists lists i)) (own i ∙ isnt)) ∙ are d i q

    pub policy_moved : AreLists orders (put_or_removed policies id o) pairs now
    policy_moved d i q =
        elim (set.contains pairs (id, i)) as (λ b. set.contains pairs (id, i) ≡ b → map.get (list_of d (item_lists now i)) q ≡ cond (same_id q.id id) (cond b (shown d after q) None) (at_place orders policies pairs d i q)) [
          | true ↦ λ is. here i is d q
          | false ↦ λ isnt. away i isnt d q
              ∙ sym (by_id (same_id q.id id) refl isnt)
        ] refl
        ∙ sym (policy_at d i q)
      where
        by_id : (b : Bool) → same_id q.id id ≡ b → set.contains pairs (id, i) ≡ false → cond b None (at_place orders policies pairs d i q) ≡ at_place orders policies pairs d i q
        by_id true h isnt = sym (at_own orders policies pairs d i id q h ∙ ap (λ c. cond c (shown d before q) None) isnt)
        by_id false h isnt = refl

    -- what isn't among the policy's items is as it was
    pub policy_idle : (i : ItemKey) → keys i ≡ false → item_lists now i ≡ item_lists lists i
    policy_idle i isnt = moves i ∙ ap (λ b. cond b (moved before after (item_lists lists i)) (item_lists lists i)) isnt

-- ---- a pair that is added or removed
module _ (orders : TierStands) (policies : KnownPolicies) (pairs : PolicyPairs) (id : PolicyId) (item : ItemKey) (added : Bool) where
  abbrev own : Option PlacedPolicy
  own = placed orders id (map.get policies id)

  pair_at : (d : Direction) (i : ItemKey) (q : PolicyPlace) → at_place orders policies (put pairs (id, item) added) d i q ≡ cond (same_id q.id id && same_item i item) (cond added (shown d own q) None) (at_place orders policies pairs d i q)
  pair_at d i q =
      ap (λ b. cond b (shown d (placed orders q.id (map.get policies q.id)) q) None) (contains_put_policy_pair pairs id item added q.id i)
      ∙ elim (same_id q.id id) as (λ b. same_id q.id id ≡ b → cond (cond (b && same_item i item) added (set.contains pairs (q.id, i))) (shown d (placed orders q.id (map.get policies q.id)) q) None ≡ cond (b && same_item i item) (cond added (shown d own q) None) (at_place orders policies pairs d i q)) [
        | true ↦ λ h.
            elim (same_item i item) as (λ c. cond (cond c added (set.contains pairs (q.id, i))) (shown d (placed orders q.id (map.get policies q.id)) q) None ≡ cond c (cond added (shown d own q) None) (at_place orders policies pairs d i q)) [
              | true ↦ ap (λ (u : PolicyId). cond added (shown d (placed orders u (map.get policies u)) q) None) (one_key exact_policy q.id id h)
              | false ↦ refl
            ]
        | false ↦ λ h. refl
      ] refl

  shown_if : (b : Bool) (d : Direction) (o : Option PlacedPolicy) (q : PolicyPlace) → shown d (cond b o None) q ≡ cond b (shown d o q) None
  shown_if true d o q = refl
  shown_if false d o q = refl

  own_if : (b : Bool) → HasId id (cond b own None)
  own_if true = own_place orders id (map.get policies id)
  own_if false = tt

  module _ (lists now : AllLists) (are : AreLists orders policies pairs lists) (was : set.contains pairs (id, item) ≡ not added)
      (moves : (i : ItemKey) → item_lists now i ≡ cond (same_item i item) (moved (cond (not added) own None) (cond added own None) (item_lists lists i)) (item_lists lists i)) where
    pair_here : (i : ItemKey) → same_item i item ≡ true → (d : Direction) (q : PolicyPlace) → map.get (list_of d (item_lists now i)) q ≡ cond (same_id q.id id) (cond added (shown d own q) None) (at_place orders policies pairs d i q)
    pair_here i is d q =
        let had : set.contains pairs (id, i) ≡ not added = ap (λ (k : ItemKey). set.contains pairs (id, k)) (one_key exact_item i item is) ∙ was in
        ap (λ l. map.get (list_of d l) q) (moves i ∙ ap (λ b. cond b (moved (cond (not added) own None) (cond added own None) (item_lists lists i)) (item_lists lists i)) is)
        ∙ get_moved d (item_lists lists i) id (cond (not added) own None) (cond added own None) (own_if (not added)) (own_if added)
        (λ r h. are d i r ∙ at_own orders policies pairs d i id r h ∙ ap (λ b. cond b (shown d own r) None) had ∙ sym (shown_if (not added) d own r)) q
        ∙ (λ j. cond (same_id q.id id) (shown_if added d own q j) (are d i q j))

    pub pair_moved : AreLists orders policies (put pairs (id, item) added) now
    pair_moved d i q =
        elim (same_item i item) as (λ b. same_item i item ≡ b → map.get (list_of d (item_lists now i)) q ≡ cond (same_id q.id id && b) (cond added (shown d own q) None) (at_place orders policies pairs d i q)) [
          | true ↦ λ is. pair_here i is d q ∙ ap (λ b. cond b (cond added (shown d own q) None) (at_place orders policies pairs d i q)) (always (same_id q.id id))
          | false ↦ λ isnt.
              ap (λ l. map.get (list_of d l) q) (moves i ∙ ap (λ b. cond b (moved (cond (not added) own None) (cond added own None) (item_lists lists i)) (item_lists lists i)) isnt)
              ∙ are d i q ∙ ap (λ b. cond b (cond added (shown d own q) None) (at_place orders policies pairs d i q)) (sym (never (same_id q.id id)))
        ] refl
        ∙ sym (pair_at d i q)
      where
        always : (b : Bool) → b ≡ (b && true)
        always true = refl
        always false = refl

        never : (b : Bool) → (b && false) ≡ false
        never true = refl
        never false = refl
