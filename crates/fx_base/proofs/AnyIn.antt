-- Whether some item of a set passes a test.
use Rattle.std.proofs.Common.{◌≡◌, Bool, true, false, cond, ◌||◌, List, [], ◌∷◌, map, Option, Some, is_some, refl, sym, ap, ◌∙◌}
use Rattle.std.specs.declared.cmp.Ordering.{Ordering}
use Rattle.std.specs.declared.cmp.Ordering.TheVariants.{Less, Equal, Greater}
use Rattle.std.specs.Ordering.{is_eq}
use Rattle.std.specs.List.{list_any}
use Rattle.std.specs.Cmp.{IsTotalOrder}
use Rattle.std.specs.FinMap.{FinMap, IsAntisymmetric, find, entries, keys, get, get-entries}
use Rattle.fx_base.specs.Set.{Set, contains, items}
use Rattle.fx_base.proofs.Walk.{found}
use Rattle.fx_base.proofs.Cases.{surely}

pub same_truth : (a b : Bool) → (a ≡ true → b ≡ true) → (b ≡ true → a ≡ true) → a ≡ b
same_truth true true f g = refl
same_truth true false f g = sym (f refl)
same_truth false true f g = g refl
same_truth false false f g = refl

module _ {K X : Type 0} {R : K → K → Ordering} (o : IsTotalOrder R) (p : K → Bool) where
  kept_some : (r : Ordering) (x : X) (f : Option X) → is_some f ≡ true → is_some (cond (is_eq r) (Some x) f) ≡ true
  kept_some Less x f h = h
  kept_some Equal x f h = refl
  kept_some Greater x f h = h

  some_key : (es : List (K × X)) → list_any p (map (λ e. e.0) es) ≡ true → (k : K) × ((p k ≡ true) × (is_some (find R k es) ≡ true))
  some_key [] h = cc
  some_key (e ∷ es) h =
      elim (p e.0) as (λ b. p e.0 ≡ b → (b || list_any p (map (λ e. e.0) es)) ≡ true → (k : K) × ((p k ≡ true) × (is_some (find R k (e ∷ es)) ≡ true))) [
        | true ↦ λ q _. (e.0, (q, ap is_some (found o e es)))
        | false ↦ λ q g. let r = some_key es g in (r.0, (r.1.0, kept_some (R r.0 e.0) e.1 (find R r.0 es) r.1.1))
      ] refl h

  from_key : IsAntisymmetric R → (es : List (K × X)) (k : K) → p k ≡ true → is_some (find R k es) ≡ true → list_any p (map (λ e. e.0) es) ≡ true
  from_key exact [] k q h = cc
  from_key exact (e ∷ es) k q h =
      elim (R k e.0) as (λ r. R k e.0 ≡ r → is_some (cond (is_eq r) (Some e.1) (find R k es)) ≡ true → (p e.0 || list_any p (map (λ e. e.0) es)) ≡ true) [
        | Less ↦ λ w g. ap (λ b. p e.0 || b) (from_key exact es k q g) ∙ surely (p e.0)
        | Greater ↦ λ w g. ap (λ b. p e.0 || b) (from_key exact es k q g) ∙ surely (p e.0)
        | Equal ↦ λ w g. ap (λ b. b || list_any p (map (λ e. e.0) es)) (ap p (sym (exact k e.0 w)) ∙ q)
      ] refl h

module _ {K : Type 0} {R : K → K → Ordering} (o : IsTotalOrder R) (exact : IsAntisymmetric R) (p : K → Bool) where
  pub any_item : (s : Set R) → list_any p (items s) ≡ true → (k : K) × ((p k ≡ true) × (contains s k ≡ true))
  any_item s h = let r = some_key o p (entries s) h in (r.0, (r.1.0, ap is_some (get-entries s r.0) ∙ r.1.1))

  pub any_from_item : (s : Set R) (k : K) → p k ≡ true → contains s k ≡ true → list_any p (items s) ≡ true
  any_from_item s k q h = from_key o p exact (entries s) k q (sym (ap is_some (get-entries s k)) ∙ h)

  -- sets that agree where the test holds
  pub any_same : (s t : Set R) → ((k : K) → p k ≡ true → contains s k ≡ contains t k) → list_any p (items s) ≡ list_any p (items t)
  any_same s t h = same_truth _ _
      (λ a. let r = any_item s a in any_from_item t r.0 r.1.0 (sym (h r.0 r.1.0) ∙ r.1.1))
      (λ a. let r = any_item t a in any_from_item s r.0 r.1.0 (h r.0 r.1.0 ∙ r.1.1))

-- the same of the keys of a map
module _ {K X : Type 0} {R : K → K → Ordering} (o : IsTotalOrder R) (exact : IsAntisymmetric R) (p : K → Bool) where
  pub any_key : (m : FinMap R X) → list_any p (keys m) ≡ true → (k : K) × ((p k ≡ true) × (is_some (get m k) ≡ true))
  any_key m h = let r = some_key o p (entries m) h in (r.0, (r.1.0, ap is_some (get-entries m r.0) ∙ r.1.1))

  pub any_from_key : (m : FinMap R X) (k : K) → p k ≡ true → is_some (get m k) ≡ true → list_any p (keys m) ≡ true
  any_from_key m k q h = from_key o p exact (entries m) k q (sym (ap is_some (get-entries m k)) ∙ h)
