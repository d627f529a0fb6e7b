-- A map with keys of bytes, but at one key as another map is there.
use Rattle.std.proofs.Common.{◌≡◌, ℕ, Bool, true, false, cond, List, Option, Some, None, refl, sym, ap, ◌∙◌, subst}
use Rattle.std.specs.declared.cmp.Ordering.TheVariants.{Less, Equal, Greater}
use Rattle.std.specs.Ordering.{nat_cmp, is_eq, eq_by_cmp}
use Rattle.std.specs.Cmp.Lexicographic.{slice_cmp}
use Rattle.std.specs.FinMap as map
use Rattle.fx_base.specs.Extended.{put_or_removed, taken_from}
use Rattle.fx_base.proofs.AtKey.{get_insert, get_remove, same_by_get, insert_same_bytes}
use Rattle.fx_base.proofs.KeyCases.{bytes_exact}

module _ {X : Type 0} where
  at_put_or_removed : (m : map.FinMap (slice_cmp nat_cmp) X) (k : List ℕ) (o : Option X) (q : List ℕ) → map.get (put_or_removed m k o) q ≡ cond (eq_by_cmp (slice_cmp nat_cmp) q k) o (map.get m q)
  at_put_or_removed m k None q = get_remove m k q
  at_put_or_removed m k (Some x) q = get_insert m k x q

  pub get_taken : (m n : map.FinMap (slice_cmp nat_cmp) X) (k q : List ℕ) → map.get (taken_from m n k) q ≡ cond (eq_by_cmp (slice_cmp nat_cmp) q k) (map.get n k) (map.get m q)
  get_taken m n k q = at_put_or_removed m k (map.get n k) q

  -- each key is as in the one map or as in the other
  pub taken_cases : (P : Option X → Type 0) (m n : map.FinMap (slice_cmp nat_cmp) X) (k q : List ℕ) → (q ≡ k → P (map.get n q)) → P (map.get m q) → P (map.get (taken_from m n k) q)
  taken_cases P m n k q here there =
      subst P (sym (get_taken m n k q))
      (elim (slice_cmp nat_cmp q k) as (λ r. slice_cmp nat_cmp q k ≡ r → P (cond (is_eq r) (map.get n k) (map.get m q))) [
        | Less ↦ λ p. there
        | Equal ↦ λ p. let same = bytes_exact q k p in subst (λ (j : List ℕ). P (map.get n j)) same (here same)
        | Greater ↦ λ p. there
      ] refl)

  hidden : (b : Bool) (x y z : Option X) → cond b x (cond b y z) ≡ cond b x z
  hidden true x y z = refl
  hidden false x y z = refl

  -- what was removed is put back
  pub put_back : (m : map.FinMap (slice_cmp nat_cmp) X) (k : List ℕ) (x : X) → map.get m k ≡ Some x → map.insert (map.remove m k) k x ≡ m
  put_back m k x is =
      same_by_get (map.insert (map.remove m k) k x) (map.insert m k x) (λ q.
      get_insert (map.remove m k) k x q
      ∙ ap (cond (eq_by_cmp (slice_cmp nat_cmp) q k) (Some x)) (get_remove m k q)
      ∙ hidden (eq_by_cmp (slice_cmp nat_cmp) q k) (Some x) None (map.get m q)
      ∙ sym (get_insert m k x q))
      ∙ insert_same_bytes m k x is
