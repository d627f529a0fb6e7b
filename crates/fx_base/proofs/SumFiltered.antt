-- A sum over a map's entries, of which only those count that a set names.
use Rattle.std.proofs.Common.{◌≡◌, ℕ, ◌+◌, Bool, true, false, cond, List, [], ◌∷◌, map, Some, refl, sym, ap, ◌∙◌, arith}
use Rattle.std.specs.List.{AllByRecursion, filter}
use Rattle.std.specs.declared.cmp.Ordering.{Ordering}
use Rattle.std.specs.Cmp.{IsTotalOrder}
use Rattle.std.specs.FinMap.{FinMap, IsAntisymmetric, entries, get}
use Rattle.fx_base.specs.Set as set
use Rattle.fx_base.specs.Set.{Set}
use Rattle.fx_base.proofs.Found.{entries_found}
use Rattle.fx_base.proofs.SumOver.{sum_over, sum_at}
use Rattle.fx_base.specs.Passing.{passes}
use Rattle.fx_base.proofs.Filtered.{items-filtered}

zero_more : (n m : ℕ) → n ≡ 0 → n + m ≡ m
zero_more n m h = omega (arith, h)

module _ {K X : Type 0} (p : K × X → Bool) where
  all-filter : (P : K × X → Type 0) (es : List (K × X)) → AllByRecursion P es → AllByRecursion P (filter p es)
  all-filter P [] h = tt
  all-filter P (e ∷ es) h = elim (p e) as (λ b. AllByRecursion P (cond b (e ∷ filter p es) (filter p es))) [ true ↦ (h.0, all-filter P es h.1) | false ↦ all-filter P es h.1 ]

module _ {K X : Type 0} (p : K × X → Bool) (w : K × X → ℕ) where
  sum-filter : ((e : K × X) → p e ≡ false → w e ≡ 0) → (es : List (K × X)) → sum_over w es ≡ sum_over w (filter p es)
  sum-filter none [] = refl
  sum-filter none (e ∷ es) =
      elim (p e) as (λ b. p e ≡ b → w e + sum_over w es ≡ sum_over w (cond b (e ∷ filter p es) (filter p es))) [
        | true ↦ λ h. ap (λ n. w e + n) (sum-filter none es)
        | false ↦ λ h. zero_more (w e) (sum_over w es) (none e h) ∙ sum-filter none es
      ] refl

  module _ {R : K → K → Ordering} (m : FinMap R X) where
    -- what stands at a key gives
    abbrev weight_at : K → ℕ
    weight_at k = sum_at w k (get m k)

    by_keys : (es : List (K × X)) → AllByRecursion (λ e. get m e.0 ≡ Some e.1) es → sum_over weight_at (map (λ e. e.0) es) ≡ sum_over w es
    by_keys [] h = refl
    by_keys (e ∷ es) h = λ i. sum_at w e.0 (h.0 i) + by_keys es h.1 i

    pub sum-filtered : IsTotalOrder R → IsAntisymmetric R → (s : Set R) → ((k : K) → set.contains s k ≡ passes p k (get m k)) → ((e : K × X) → p e ≡ false → w e ≡ 0) → sum_over w (entries m) ≡ sum_over weight_at (set.items s)
    sum-filtered o exact s is none =
        sum-filter none (entries m) ∙ sym (by_keys (filter p (entries m)) (all-filter p (λ e. get m e.0 ≡ Some e.1) (entries m) (entries_found o m)))
        ∙ ap (sum_over weight_at) (sym (items-filtered o exact p s m is))
