-- What the sink has after a change of the node's inputs.
use Rattle.std.proofs.Common.{◌≡◌, ℕ, Bool, true, false, cond, List, Option, Some, None, is_some, refl, sym, ap, ◌∙◌, subst}
use Rattle.std.specs.declared.cmp.Ordering.TheVariants.{Less, Equal, Greater}
use Rattle.std.specs.Ordering.{nat_cmp, eq_by_cmp, is_eq}
use Rattle.std.specs.Cmp.Lexicographic.{slice_cmp}
use Rattle.std.specs.List.{list_any}
use Rattle.std.specs.FinMap as map
use Rattle.fx_base.specs.Set as set
use Rattle.fx_base.proofs.KeyCases.{bytes_exact}
use Rattle.fx_base.proofs.AtKey.{get_insert, get_empty}
use Rattle.fx_base.proofs.Entries.{entries-empty}
use Rattle.fx_model.specs.Pairs.{Pairs, PolicyPairs, policy_pair_cmp}
use Rattle.fx_model.specs.Sinks.{Policies, Profiles}
use Rattle.fx_model.specs.declared.ids.ItemKey.{ItemKey}
use Rattle.fx_model.specs.declared.ids.PolicyId.{PolicyId}
use Rattle.fx_model.specs.declared.policy.Policy.{Policy}
use Rattle.fx_model.specs.declared.resources.Profile.{Profile}
use Rattle.fx_model.specs.contracts.ids.ItemKeyOrd.TheImpl as item_cmp
use Rattle.fx_model.specs.contracts.ids.PolicyIdOrd.TheImpl as policy_cmp
use Rattle.fx_model.proofs.Orders.{policy_total}
use Rattle.fx_active.specs.Inputs.{Named, Endpoints}
use Rattle.fx_active.specs.declared.inputs.Inputs.{Inputs}
use Rattle.fx_active.specs.Active.{where_active, applies_to, is_in, is_listed, ArePolicies, AreProfiles, ArePairs}
use Rattle.fx_active.specs.Node.{IsActive}
use Rattle.fx_active.specs.Steps.{same_id, insert_or_remove, IsRowSet}
use Rattle.fx_active.proofs.UpdateWalk.{get_either}

-- what stands of the value at entry stands of what it is inside
module _ {n m : Inputs} {P : Policies} {Q : Profiles} {S : PolicyPairs} where
  pub at_entry : n ≡ m → IsActive m P Q S → IsActive n P Q S
  at_entry same was = subst (λ k. IsActive k P Q S) (sym same) was

-- ---- at the start
pub none_active : IsActive (record { policies = map.empty; profiles = map.empty; endpoints = map.empty; matched = set.empty }) map.empty map.empty set.empty
none_active = record {
  policies_are = λ id. map.get-empty policy_cmp.cmp-value.it id ∙ sym (ap (where_active map.empty set.empty) (map.get-empty policy_cmp.cmp-value.it id));
  profiles_are = λ name. get_empty name ∙ sym (ap (λ es. cond (list_any (λ e. is_in e.1 name) es) (Some (map.get {R = slice_cmp nat_cmp} map.empty name)) None) (entries-empty item_cmp.cmp-value.it));
  pairs_are = λ id i. ap is_some (map.get-empty policy_pair_cmp (id, i)) ∙ sym (ap (λ o. applies_to map.empty set.empty o i) (map.get-empty policy_cmp.cmp-value.it id));
}

-- ---- another profile at a name
module _ (ps now : Named) (E : Endpoints) (Q then : Profiles) (name : List ℕ) (o : Option Profile) (is : AreProfiles ps E Q) where
  profile_at : (b : Bool) → is_listed E name ≡ b → (q : List ℕ) → map.get (cond b (map.insert Q name o) Q) q ≡ cond (is_listed E q) (Some (cond (eq_by_cmp (slice_cmp nat_cmp) q name) o (map.get ps q))) None
  profile_at true e q =
      get_insert Q name o q ∙ ap (cond (eq_by_cmp (slice_cmp nat_cmp) q name) (Some o)) (is q)
      ∙ elim (slice_cmp nat_cmp q name) as (λ r. slice_cmp nat_cmp q name ≡ r → cond (is_eq r) (Some o) (cond (is_listed E q) (Some (map.get ps q)) None) ≡ cond (is_listed E q) (Some (cond (is_eq r) o (map.get ps q))) None) [
        | Less ↦ λ p. refl
        | Equal ↦ λ p. sym (ap (λ b. cond b (Some o) None) (ap (is_listed E) (bytes_exact q name p) ∙ e))
        | Greater ↦ λ p. refl
      ] refl
  profile_at false e q =
      is q
      ∙ elim (slice_cmp nat_cmp q name) as (λ r. slice_cmp nat_cmp q name ≡ r → cond (is_listed E q) (Some (map.get ps q)) None ≡ cond (is_listed E q) (Some (cond (is_eq r) o (map.get ps q))) None) [
        | Less ↦ λ p. refl
        | Equal ↦ λ p. let none = ap (is_listed E) (bytes_exact q name p) ∙ e in ap (λ b. cond b (Some (map.get ps q)) None) none ∙ sym (ap (λ b. cond b (Some o) None) none)
        | Greater ↦ λ p. refl
      ] refl

  pub profiles_put : ((q : List ℕ) → map.get now q ≡ cond (eq_by_cmp (slice_cmp nat_cmp) q name) o (map.get ps q)) → then ≡ cond (is_listed E name) (map.insert Q name o) Q → AreProfiles now E then
  profiles_put at output q = ap (λ m. map.get m q) output ∙ profile_at (is_listed E name) refl q ∙ ap (λ v. cond (is_listed E q) (Some v) None) (sym (at q))

-- ---- another policy at an id, or none
module _ (E : Endpoints) (M : Pairs) where
  where_either : (b : Bool) (o x : Option Policy) → cond b (where_active E M o) (where_active E M x) ≡ where_active E M (cond b o x)
  where_either true o x = refl
  where_either false o x = refl

  applies_either : (b : Bool) (o x : Option Policy) (i : ItemKey) → cond b (applies_to E M o i) (applies_to E M x i) ≡ applies_to E M (cond b o x) i
  applies_either true o x i = refl
  applies_either false o x i = refl

  some_if : {A : Type 0} (b : Bool) (x : A) → cond (is_some (cond b (Some x) None)) (Some x) None ≡ cond b (Some x) None
  some_if true x = refl
  some_if false x = refl

  module _ (policies now : Policies) (id : PolicyId) where
    module _ (p : Policy) (at : now ≡ map.insert policies id p) where
      pub policies_put : (P then : Policies) (stands : Bool) → ArePolicies policies E M P → stands ≡ is_some (where_active E M (Some p)) → then ≡ insert_or_remove P id p stands → ArePolicies now E M then
      policies_put P then stands was active is q =
          ap (λ m. map.get m q) is ∙ get_either P id p stands q
          ∙ (λ j. cond (same_id q id) (cond (active j) (Some p) None) (was q j))
          ∙ ap (λ o. cond (same_id q id) o (where_active E M (map.get policies q))) (some_if _ p)
          ∙ where_either (same_id q id) (Some p) (map.get policies q)
          ∙ ap (where_active E M) (sym (ap (λ m. map.get m q) at ∙ map.get-insert policy_total policies id p q))

      pub pairs_put : (S then : PolicyPairs) → ArePairs policies E M S → IsRowSet id (λ i. applies_to E M (Some p) i) S then → ArePairs now E M then
      pairs_put S then was is q i =
          is q i ∙ ap (cond (same_id q id) (applies_to E M (Some p) i)) (was q i)
          ∙ applies_either (same_id q id) (Some p) (map.get policies q) i
          ∙ ap (λ o. applies_to E M o i) (sym (ap (λ m. map.get m q) at ∙ map.get-insert policy_total policies id p q))

    module _ (at : now ≡ map.remove policies id) where
      pub policies_removed : (P then : Policies) → ArePolicies policies E M P → then ≡ map.remove P id → ArePolicies now E M then
      policies_removed P then was is q =
          ap (λ m. map.get m q) is ∙ map.get-remove policy_total P id q
          ∙ ap (cond (same_id q id) None) (was q)
          ∙ where_either (same_id q id) None (map.get policies q)
          ∙ ap (where_active E M) (sym (ap (λ m. map.get m q) at ∙ map.get-remove policy_total policies id q))

      pub pairs_removed : (S then : PolicyPairs) → ArePairs policies E M S → IsRowSet id (λ i. false) S then → ArePairs now E M then
      pairs_removed S then was is q i =
          is q i ∙ ap (cond (same_id q id) false) (was q i)
          ∙ applies_either (same_id q id) None (map.get policies q) i
          ∙ ap (λ o. applies_to E M o i) (sym (ap (λ m. map.get m q) at ∙ map.get-remove policy_total policies id q))
