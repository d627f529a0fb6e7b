-- A sum over the entries of a map, as an entry comes or goes.
use Rattle.std.proofs.Common.{◌≡◌, ℕ, ◌+◌, cond, List, [], ◌∷◌, Option, Some, None, refl, sym, ap, ◌∙◌}
use Rattle.std.specs.declared.cmp.Ordering.{Ordering}
use Rattle.std.specs.declared.cmp.Ordering.TheVariants.{Less, Equal, Greater}
use Rattle.std.specs.Ordering.{is_eq, eq_by_cmp}
use Rattle.std.specs.Cmp.{IsTotalOrder, tied_itself}
use Rattle.std.specs.FinMap.{FinMap, IsAntisymmetric, find, put, entries, get, insert, remove, get-entries, entries-insert, get-insert, get-remove, same_map}
use Rattle.std.specs.FinMap.Entries.{by_order}
use Rattle.fx_base.proofs.AtKey.{insert_same}
use Rattle.fx_base.proofs.SetAt.{at_none}
use Rattle.fx_base.proofs.Cases.{hidden, moved, none_more}

-- the sum of what each element gives
abbrev pub sum_over : {A : Type 0} → (A → ℕ) → List A → ℕ
sum_over w [] = 0
sum_over w (x ∷ xs) = w x + sum_over w xs

-- what stands at a key gives
abbrev pub sum_at : {K X : Type 0} → (K × X → ℕ) → K → Option X → ℕ
sum_at w k None = 0
sum_at w k (Some v) = w (k, v)

not_found : {X : Type 0} (x : X) → Some x ≡ None → ⊥
not_found x e = cc

module _ {K X : Type 0} (R : K → K → Ordering) (w : K × X → ℕ) (k : K) (v : X) where
  sum-put : (es : List (K × X)) → find R k es ≡ None → sum_over w (put R k v es) ≡ w (k, v) + sum_over w es
  sum-put [] h = refl
  sum-put (e ∷ es) h =
      elim (R k e.0) as (λ r. cond (is_eq r) (Some e.1) (find R k es) ≡ None → sum_over w (by_order r ((k, v) ∷ e ∷ es) ((e.0, v) ∷ es) (e ∷ put R k v es)) ≡ w (k, v) + (w e + sum_over w es)) [
        | Less ↦ λ g. refl
        | Equal ↦ λ g. absurd (not_found e.1 g)
        | Greater ↦ λ g. ap (λ n. w e + n) (sum-put es g) ∙ moved (w e) (w (k, v)) (sum_over w es)
      ] h

module _ {K X : Type 0} {R : K → K → Ordering} (o : IsTotalOrder R) (exact : IsAntisymmetric R) (w : K × X → ℕ) where
  none_left : (m : FinMap R X) (k : K) → find R k (entries (remove m k)) ≡ None
  none_left m k = sym (get-entries (remove m k) k) ∙ get-remove o m k k ∙ ap (λ r. cond (is_eq r) None (get m k)) (tied_itself o k)

  put_anew : (m : FinMap R X) (k : K) (v : X) → insert (remove m k) k v ≡ insert m k v
  put_anew m k v = same_map o exact _ _ (λ q.
      get-insert o (remove m k) k v q ∙ ap (cond (eq_by_cmp R q k) (Some v)) (get-remove o m k q)
      ∙ hidden (eq_by_cmp R q k) (Some v) None (get m q) ∙ sym (get-insert o m k v q))

  -- an entry that is put stands in place of what was there
  pub sum-insert : (m : FinMap R X) (k : K) (v : X) → sum_over w (entries (insert m k v)) ≡ w (k, v) + sum_over w (entries (remove m k))
  sum-insert m k v =
      ap (λ n. sum_over w (entries n)) (sym (put_anew m k v)) ∙ ap (sum_over w) (entries-insert o (remove m k) k v)
      ∙ sum-put R w k v (entries (remove m k)) (none_left m k)

  -- what stands at a key is taken out
  pub sum-remove : (m : FinMap R X) (k : K) → sum_over w (entries m) ≡ sum_at w k (get m k) + sum_over w (entries (remove m k))
  sum-remove m k = by_cases (get m k) refl
    where
      by_cases : (f : Option X) → get m k ≡ f → sum_over w (entries m) ≡ sum_at w k f + sum_over w (entries (remove m k))
      by_cases None h = ap (λ n. sum_over w (entries n)) (sym (same_map o exact (remove m k) m (λ q. get-remove o m k q ∙ at_none o exact (get m) k h q))) ∙ none_more _
      by_cases (Some v) h = ap (λ n. sum_over w (entries n)) (sym (insert_same o exact m k v h)) ∙ sum-insert m k v
