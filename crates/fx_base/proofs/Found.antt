-- The entries of a finite map are what is found in it.
use Rattle.std.proofs.Common.{◌≡◌, Bool, true, false, cond, ◌&&◌, List, [], ◌∷◌, Some, None, refl, sym, ap, ◌∙◌, subst}
use Rattle.std.proofs.Math.Dec.{T}
use Rattle.std.specs.List.{AllByRecursion, find}
use Rattle.std.specs.declared.cmp.Ordering.{Ordering}
use Rattle.std.specs.declared.cmp.Ordering.TheVariants.{Less, Equal, Greater}
use Rattle.std.specs.Ordering.{is_eq, ordering_reverse}
use Rattle.std.specs.Cmp.{IsTotalOrder, tied_itself}
use Rattle.std.specs.FinMap as map
use Rattle.std.specs.FinMap.{FinMap, IsAntisymmetric}
use Rattle.std.specs.FinMap.Entries as list
use Rattle.fx_base.proofs.Cases.{less}

pub each : {A : Type 0} (P Q : A → Type 0) → ((x : A) → P x → Q x) → (xs : List A) → AllByRecursion P xs → AllByRecursion Q xs
each P Q f [] h = tt
each P Q f (x ∷ xs) h = (f x h.0, each P Q f xs h.1)

-- what holds of all elements holds of the one that is found
pub of_found : {A : Type 0} (P : A → Type 0) (test : A → Bool) (xs : List A) (x : A) → AllByRecursion P xs → find test xs ≡ Some x → P x
of_found P test [] x h e = cc
of_found P test (y ∷ ys) x h e =
    elim (test y) as (λ b. cond b (Some y) (find test ys) ≡ Some x → P x) [
      | true ↦ λ is. let same : y ≡ x = cc in subst P same h.0
      | false ↦ λ is. of_found P test ys x h.1 is
    ] e

-- and it passes the test
pub found_passes : {A : Type 0} (test : A → Bool) (xs : List A) (x : A) → find test xs ≡ Some x → test x ≡ true
found_passes test [] x e = cc
found_passes test (y ∷ ys) x e =
    elim (test y) as (λ b. test y ≡ b → cond b (Some y) (find test ys) ≡ Some x → test x ≡ true) [
      | true ↦ λ p is. let same : y ≡ x = cc in ap test (sym same) ∙ p
      | false ↦ λ p is. found_passes test ys x is
    ] refl e

pub none_found : {A : Type 0} (test : A → Bool) (xs : List A) → AllByRecursion (λ x. test x ≡ false) xs → find test xs ≡ None
none_found test [] h = refl
none_found test (x ∷ xs) h = ap (λ b. cond b (Some x) (find test xs)) h.0 ∙ none_found test xs h.1

pub all_fail : {A : Type 0} (test : A → Bool) (xs : List A) → find test xs ≡ None → AllByRecursion (λ x. test x ≡ false) xs
all_fail test [] e = tt
all_fail test (x ∷ xs) e =
    elim (test x) as (λ b. test x ≡ b → cond b (Some x) (find test xs) ≡ None → AllByRecursion (λ x. test x ≡ false) (x ∷ xs)) [
      | true ↦ λ p is. cc
      | false ↦ λ p is. (p, all_fail test xs is)
    ] refl e

both_true : (a b : Bool) → T (a && b) → (T a) × (T b)
both_true true b h = (tt, h)
both_true false b h = absurd h

module _ {K X : Type 0} {R : K → K → Ordering} (o : IsTotalOrder R) where
  behind : (e : K × X) (es fs : List (K × X)) → T (list.below_all R e.0 fs) → AllByRecursion (λ f. list.find R f.0 es ≡ Some f.1) fs → AllByRecursion (λ f. list.find R f.0 (e ∷ es) ≡ Some f.1) fs
  behind e es [] below h = tt
  behind e es (f ∷ fs) below h =
      let parts = both_true _ _ below in
      let greater : R f.0 e.0 ≡ Greater = o.antisymm f.0 e.0 ∙ ap ordering_reverse (less _ parts.0) in
      (ap (λ r. cond (is_eq r) (Some e.1) (list.find R f.0 es)) greater ∙ h.0, behind e es fs parts.1 h.1)

  found_in : (es : List (K × X)) → T (list.is_sorted R es) → AllByRecursion (λ e. list.find R e.0 es ≡ Some e.1) es
  found_in [] h = tt
  found_in (e ∷ es) h =
      let parts = both_true _ _ h in
      (ap (λ r. cond (is_eq r) (Some e.1) (list.find R e.0 es)) (tied_itself o e.0), behind e es es parts.0 (found_in es parts.1))

  -- each entry is found by its key
  pub entries_found : (m : FinMap R X) → AllByRecursion (λ e. map.get m e.0 ≡ Some e.1) (map.entries m)
  entries_found m =
      each (λ e. list.find R e.0 (map.entries m) ≡ Some e.1) (λ e. map.get m e.0 ≡ Some e.1) (λ e h. map.get-entries m e.0 ∙ h)
      (map.entries m) (found_in (map.entries m) (map.entries_sorted m))

  found_tied : IsAntisymmetric R → (P : K × X → Type 0) (es : List (K × X)) (q : K) (x : X) → AllByRecursion P es → list.find R q es ≡ Some x → P (q, x)
  found_tied exact P [] q x h e = cc
  found_tied exact P (f ∷ fs) q x h e =
      elim (R q f.0) as (λ r. R q f.0 ≡ r → cond (is_eq r) (Some f.1) (list.find R q fs) ≡ Some x → P (q, x)) [
        | Less ↦ λ p is. found_tied exact P fs q x h.1 is
        | Equal ↦ λ p is. let value : f.1 ≡ x = cc in subst P (λ i. (sym (exact q f.0 p) i, value i)) h.0
        | Greater ↦ λ p is. found_tied exact P fs q x h.1 is
      ] refl e

  -- what holds of all entries holds of what is found
  pub of_entries : IsAntisymmetric R → (P : K × X → Type 0) (m : FinMap R X) (q : K) (x : X) → AllByRecursion P (map.entries m) → map.get m q ≡ Some x → P (q, x)
  of_entries exact P m q x h e = found_tied exact P (map.entries m) q x h (sym (map.get-entries m q) ∙ e)
