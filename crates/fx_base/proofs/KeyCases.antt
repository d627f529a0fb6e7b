-- What a map with keys of bytes has at a key after a change, by cases.
use Rattle.std.proofs.Common.{◌≡◌, ◌≢◌, ◌⊎◌, inl, inr, ℕ, true, cond, List, Some, None, is_some, refl, sym, ap, ◌∙◌}
use Rattle.std.specs.Ordering.{nat_cmp, is_eq}
use Rattle.std.specs.Cmp.Lexicographic.{slice_cmp}
use Rattle.std.specs.declared.cmp.Ordering.TheVariants.{Less, Equal, Greater}
use Rattle.std.specs.FinMap.{FinMap, IsAntisymmetric, nat_cmp-IsAntisymmetric, slice_cmp-IsAntisymmetric, get, insert, remove, contains_key}
use Rattle.fx_base.proofs.AtKey.{get_insert, get_remove, get_insert_same}
use Rattle.fx_base.proofs.Cases.{same_some, none_some}

pub bytes_exact : IsAntisymmetric (slice_cmp nat_cmp)
bytes_exact = slice_cmp-IsAntisymmetric nat_cmp-IsAntisymmetric

module _ {X : Type 0} (m : FinMap (slice_cmp nat_cmp) X) where
  -- what is there after an insert was inserted or was there
  pub at_insert : (k : List ℕ) (v : X) (q : List ℕ) (x : X) → get (insert m k v) q ≡ Some x → ((q ≡ k) × (v ≡ x)) ⊎ (get m q ≡ Some x)
  at_insert k v q x e =
      elim (slice_cmp nat_cmp q k) as (λ r. slice_cmp nat_cmp q k ≡ r → cond (is_eq r) (Some v) (get m q) ≡ Some x → ((q ≡ k) × (v ≡ x)) ⊎ (get m q ≡ Some x)) [
        | Less ↦ λ p h. inr h
        | Equal ↦ λ p h. inl (bytes_exact q k p, same_some v x h)
        | Greater ↦ λ p h. inr h
      ] refl (sym (get_insert m k v q) ∙ e)

  -- what is there after a removal was there, at another key
  pub at_remove : (k q : List ℕ) (x : X) → get (remove m k) q ≡ Some x → get m q ≡ Some x
  at_remove k q x e =
      elim (slice_cmp nat_cmp q k) as (λ r. cond (is_eq r) None (get m q) ≡ Some x → get m q ≡ Some x) [
        | Less ↦ λ h. h
        | Equal ↦ λ h. none_some x h
        | Greater ↦ λ h. h
      ] (sym (get_remove m k q) ∙ e)

  -- a key that is there stays there through an insert
  pub there_insert : (k : List ℕ) (v : X) (q : List ℕ) → contains_key m q ≡ true → contains_key (insert m k v) q ≡ true
  there_insert k v q h =
      ap is_some (get_insert m k v q)
      ∙ elim (slice_cmp nat_cmp q k) as (λ r. is_some (cond (is_eq r) (Some v) (get m q)) ≡ true) [ Less ↦ h | Equal ↦ refl | Greater ↦ h ]

  pub there_inserted : (k : List ℕ) (v : X) → contains_key (insert m k v) k ≡ true
  there_inserted k v = ap is_some (get_insert_same m k v)

  -- and through a removal of another key
  pub there_remove : (k q : List ℕ) → q ≢ k → contains_key m q ≡ true → contains_key (remove m k) q ≡ true
  there_remove k q other h =
      ap is_some (get_remove m k q)
      ∙ elim (slice_cmp nat_cmp q k) as (λ r. slice_cmp nat_cmp q k ≡ r → is_some (cond (is_eq r) None (get m q)) ≡ true) [
        | Less ↦ λ p. h
        | Equal ↦ λ p. absurd (other (bytes_exact q k p))
        | Greater ↦ λ p. h
      ] refl
