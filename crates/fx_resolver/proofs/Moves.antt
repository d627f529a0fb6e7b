-- What stands at a place after a policy has moved.
use Rattle.std.proofs.Common.{◌≡◌, ℕ, Bool, true, false, cond, ◌&&◌, List, Option, Some, None, refl, sym, ap, ◌∙◌}
use Rattle.std.specs.FinMap as map
use Rattle.fx_model.specs.declared.ids.PolicyId.{PolicyId}
use Rattle.fx_model.specs.declared.tier_order.PolicyPlace.{PolicyPlace}
use Rattle.fx_model.specs.Directions.{Direction, Ingress, Egress}
use Rattle.fx_model.proofs.Orders.{place_total, exact_place, policy_total, exact_policy}
use Rattle.fx_resolver.specs.declared.lists.ItemLists.{ItemLists}
use Rattle.fx_resolver.specs.declared.placed.PlacedPolicy.{PlacedPolicy}
use Rattle.fx_resolver.specs.Indexes.{same_id}
use Rattle.fx_resolver.specs.Lists.{Keys, keys_without, keys_with, list_of, moved}
use Rattle.fx_resolver.specs.Placed.{same_place, is_placed_on, shown}
use Rattle.fx_base.proofs.Cases.{never}
use Rattle.fx_base.proofs.Keyed.{one_key, own_key}

-- a policy that may be absent has this id
abbrev pub HasId : PolicyId → Option PlacedPolicy → Type 0
HasId id None = Unit {0}
HasId id (Some p) = p.place.id ≡ id

-- the policy, if it is there, stands at this place
abbrev pub stands_at : PolicyPlace → Option PlacedPolicy → Bool
stands_at q None = false
stands_at q (Some p) = same_place q p.place

-- the key that a policy puts there, else what there was
abbrev pub over : Option (List ℕ) → Option (List ℕ) → Option (List ℕ)
over None x = x
over (Some k) x = Some k

pub unless_id : (q r : PolicyPlace) → same_id q.id r.id ≡ false → same_place q r ≡ false
unless_id q r other =
    elim (same_place q r) as (λ b. same_place q r ≡ b → b ≡ false) [
      | true ↦ λ h. sym (ap (λ (p : PolicyPlace). same_id p.id r.id) (one_key exact_place q r h) ∙ own_key policy_total r.id) ∙ other
      | false ↦ λ h. refl
    ] refl

elsewhere : (id : PolicyId) (o : Option PlacedPolicy) → HasId id o → (q : PolicyPlace) → same_id q.id id ≡ false → stands_at q o ≡ false
elsewhere id None own q other = refl
elsewhere id (Some p) own q other = unless_id q p.place (ap (same_id q.id) own ∙ other)

pub not_shown : (d : Direction) (id : PolicyId) (o : Option PlacedPolicy) → HasId id o → (q : PolicyPlace) → same_id q.id id ≡ false → shown d o q ≡ None
not_shown d id None own q other = refl
not_shown d id (Some p) own q other = ap (λ b. cond (is_placed_on d p && b) (Some p.key) None) (elsewhere id (Some p) own q other) ∙ ap (λ b. cond b (Some p.key) None) (never (is_placed_on d p))

get_without : (o : Option PlacedPolicy) (m : Keys) (q : PolicyPlace) → map.get (keys_without o m) q ≡ cond (stands_at q o) None (map.get m q)
get_without None m q = refl
get_without (Some p) m q = map.get-remove place_total m p.place q

pub some_over : (at : Bool) (k : List ℕ) (x : Option (List ℕ)) → cond at (Some k) x ≡ over (cond at (Some k) None) x
some_over true k x = refl
some_over false k x = refl

get_with : (d : Direction) (o : Option PlacedPolicy) (m : Keys) (q : PolicyPlace) → map.get (keys_with d o m) q ≡ over (shown d o q) (map.get m q)
get_with d None m q = refl
get_with d (Some p) m q =
    elim (is_placed_on d p) as (λ b. map.get (cond b (map.insert m p.place p.key) m) q ≡ over (cond (b && same_place q p.place) (Some p.key) None) (map.get m q)) [
      | true ↦ map.get-insert place_total m p.place p.key q ∙ some_over (same_place q p.place) p.key (map.get m q)
      | false ↦ refl
    ]

-- what a policy put is gone without it
none_left : (d : Direction) (o : Option PlacedPolicy) (q : PolicyPlace) → cond (stands_at q o) None (shown d o q) ≡ None
none_left d None q = refl
none_left d (Some p) q = by_cases (same_place q p.place) (is_placed_on d p)
  where
    by_cases : (at on : Bool) → cond at None (cond (on && at) (Some p.key) None) ≡ None
    by_cases true on = refl
    by_cases false on = ap (λ b. cond b (Some p.key) None) (never on)

over_none : (x : Option (List ℕ)) → over x None ≡ x
over_none None = refl
over_none (Some k) = refl

list_moved : (d : Direction) (before after : Option PlacedPolicy) (l : ItemLists) → list_of d (moved before after l) ≡ keys_with d after (keys_without before (list_of d l))
list_moved Ingress before after l = refl
list_moved Egress before after l = refl

module _ (d : Direction) (l : ItemLists) (id : PolicyId) (before after : Option PlacedPolicy) (own_before : HasId id before) (own_after : HasId id after) where
  -- the policy's own places have what it puts there now, and all others are as they were
  pub get_moved : ((q : PolicyPlace) → same_id q.id id ≡ true → map.get (list_of d l) q ≡ shown d before q)
      → (q : PolicyPlace) → map.get (list_of d (moved before after l)) q ≡ cond (same_id q.id id) (shown d after q) (map.get (list_of d l) q)
  get_moved was q =
      ap (λ m. map.get m q) (list_moved d before after l)
      ∙ get_with d after (keys_without before (list_of d l)) q
      ∙ ap (over (shown d after q)) (get_without before (list_of d l) q)
      ∙ elim (same_id q.id id) as (λ b. same_id q.id id ≡ b → over (shown d after q) (cond (stands_at q before) None (map.get (list_of d l) q)) ≡ cond b (shown d after q) (map.get (list_of d l) q)) [
        | true ↦ λ h. ap (λ x. over (shown d after q) (cond (stands_at q before) None x)) (was q h) ∙ ap (over (shown d after q)) (none_left d before q) ∙ over_none (shown d after q)
        | false ↦ λ h. (λ j. over (not_shown d id after own_after q h j) (cond (elsewhere id before own_before q h j) None (map.get (list_of d l) q)))
      ] refl
