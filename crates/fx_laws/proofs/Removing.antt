-- What holds of each entry of a map holds of those that are left where one is removed.
use Rattle.std.proofs.Common.{◌≡◌, Bool, true, false, ◌&&◌, cond, List, [], ◌∷◌, Some, None, refl, sym, ◌∙◌}
use Rattle.std.specs.List.{list_all, AllByRecursion}
use Rattle.std.specs.declared.cmp.Ordering.{Ordering}
use Rattle.std.specs.Ordering.{eq_by_cmp}
use Rattle.std.specs.Cmp.{IsTotalOrder}
use Rattle.std.specs.FinMap.{FinMap, IsAntisymmetric, entries, get, remove, get-remove}
use Rattle.fx_base.specs.Same.{both_pass}
use Rattle.fx_base.proofs.Found.{each, entries_found, of_entries}

pub both : (a b : Bool) → a ≡ true → b ≡ true → (a && b) ≡ true
both true b p q = q
both false b p q = cc

-- a test of each item, as a fact on each item, and back
pub each_passes : {A : Type 0} (p : A → Bool) (xs : List A) → list_all p xs ≡ true → AllByRecursion (λ x. p x ≡ true) xs
each_passes p [] h = tt
each_passes p (x ∷ xs) h = let b = both_pass (p x) (list_all p xs) h in (b.0, each_passes p xs b.1)

pub all_pass : {A : Type 0} (p : A → Bool) (xs : List A) → AllByRecursion (λ x. p x ≡ true) xs → list_all p xs ≡ true
all_pass p [] h = refl
all_pass p (x ∷ xs) h = both (p x) (list_all p xs) h.0 (all_pass p xs h.1)

module _ {K X : Type 0} {R : K → K → Ordering} (o : IsTotalOrder R) where
  -- what is found after a removal was found before it
  pub found_before : (m : FinMap R X) (k q : K) (x : X) → get (remove m k) q ≡ Some x → get m q ≡ Some x
  found_before m k q x e = by_test (eq_by_cmp R q k) (sym (get-remove o m k q) ∙ e)
    where
      by_test : (b : Bool) → cond b None (get m q) ≡ Some x → get m q ≡ Some x
      by_test true h = cc
      by_test false h = h

  pub found_passes : IsAntisymmetric R → (p : K × X → Bool) (m : FinMap R X) → list_all p (entries m) ≡ true → (q : K) (x : X) → get m q ≡ Some x → p (q, x) ≡ true
  found_passes exact p m all q x e = of_entries o exact (λ y. p y ≡ true) m q x (each_passes p (entries m) all) e

  pub all_found : (p : K × X → Bool) (m : FinMap R X) → ((q : K) (x : X) → get m q ≡ Some x → p (q, x) ≡ true) → list_all p (entries m) ≡ true
  all_found p m holds = all_pass p (entries m) (each (λ e. get m e.0 ≡ Some e.1) (λ e. p e ≡ true) (λ e h. holds e.0 e.1 h) (entries m) (entries_found o m))

  pub all-remove : IsAntisymmetric R → (p : K × X → Bool) (m : FinMap R X) (k : K) → list_all p (entries m) ≡ true → list_all p (entries (remove m k)) ≡ true
  all-remove exact p m k all = all_found p (remove m k) (λ q x e. found_passes exact p m all q x (found_before m k q x e))
