-- Whether some entry of a map that passes a first test passes a second one.
use Rattle.std.proofs.Common.{◌≡◌, Bool, true, false, cond, ◌||◌, List, [], ◌∷◌, filter, Some, refl, sym, ap, ◌∙◌}
use Rattle.std.specs.declared.cmp.Ordering.{Ordering}
use Rattle.std.specs.declared.cmp.Ordering.TheVariants.{Less, Equal, Greater}
use Rattle.std.specs.Ordering.{is_eq}
use Rattle.std.specs.List.{list_any, flat_map, AllByRecursion}
use Rattle.std.specs.Cmp.{IsTotalOrder}
use Rattle.std.specs.FinMap.{FinMap, IsAntisymmetric, find, entries, get, get-entries}
use Rattle.std.proofs.lemmas.List.Folds.{list_any-append}
use Rattle.fx_base.proofs.Found.{entries_found}
use Rattle.fx_base.proofs.Cases.{surely}

-- every item passes
unfiltered : {A : Type 0} (t : A → Bool) (xs : List A) → list_any t (filter (λ _. true) xs) ≡ list_any t xs
unfiltered t [] = refl
unfiltered t (x ∷ xs) = ap (λ b. t x || b) (unfiltered t xs)

-- some item of what each element gives
pub any-flat_map : {A B : Type 0} (t : B → Bool) (f : A → List B) (xs : List A) → list_any t (flat_map f xs) ≡ list_any (λ x. list_any t (f x)) xs
any-flat_map t f [] = refl
any-flat_map t f (x ∷ xs) = list_any-append t (f x) (flat_map f xs) ∙ ap (λ b. list_any t (f x) || b) (any-flat_map t f xs)

module _ {K X : Type 0} {R : K → K → Ordering} (o : IsTotalOrder R) (exact : IsAntisymmetric R) (m : FinMap R X) where
  module _ (s t : K × X → Bool) where
    abbrev IsSome : K × X → Type 0
    IsSome x = (get m x.0 ≡ Some x.1) × ((s x ≡ true) × (t x ≡ true))

    some_entry : (xs : List (K × X)) → AllByRecursion (λ x. get m x.0 ≡ Some x.1) xs → list_any t (filter s xs) ≡ true → (x : K × X) × IsSome x
    some_entry [] h e = cc
    some_entry (x ∷ xs) h e =
        elim (s x) as (λ b. s x ≡ b → list_any t (cond b (x ∷ filter s xs) (filter s xs)) ≡ true → (y : K × X) × IsSome y) [
          | false ↦ λ p q. some_entry xs h.1 q
          | true ↦ λ p q. elim (t x) as (λ c. t x ≡ c → (c || list_any t (filter s xs)) ≡ true → (y : K × X) × IsSome y) [
            | true ↦ λ k _. (x, (h.0, (p, k)))
            | false ↦ λ k r. some_entry xs h.1 r
          ] refl q
        ] refl e

    from_list : (xs : List (K × X)) (k : K) (v : X) → find R k xs ≡ Some v → s (k, v) ≡ true → t (k, v) ≡ true → list_any t (filter s xs) ≡ true
    from_list [] k v f p q = cc
    from_list (x ∷ xs) k v f p q =
        elim (R k x.0) as (λ r. R k x.0 ≡ r → cond (is_eq r) (Some x.1) (find R k xs) ≡ Some v → list_any t (cond (s x) (x ∷ filter s xs) (filter s xs)) ≡ true) [
          | Less ↦ λ _ g. passed (s x) (filter s xs) (from_list xs k v g p q)
          | Greater ↦ λ _ g. passed (s x) (filter s xs) (from_list xs k v g p q)
          | Equal ↦ λ w g.
              let same : (k, v) ≡ x = λ j. (exact k x.0 w j, the_value x.1 v g j) in
              ap (λ b. list_any t (cond b (x ∷ filter s xs) (filter s xs))) (sym (ap s same) ∙ p) ∙ ap (λ b. b || list_any t (filter s xs)) (sym (ap t same) ∙ q)
        ] refl f
      where
        passed : (b : Bool) (ys : List (K × X)) → list_any t ys ≡ true → list_any t (cond b (x ∷ ys) ys) ≡ true
        passed true ys h = ap (λ c. t x || c) h ∙ surely (t x)
        passed false ys h = h

        the_value : (a b : X) → Some a ≡ Some b → b ≡ a
        the_value a b e = cc

    pub found_entry : list_any t (filter s (entries m)) ≡ true → (x : K × X) × ((get m x.0 ≡ Some x.1) × ((s x ≡ true) × (t x ≡ true)))
    found_entry h = some_entry (entries m) (entries_found o m) h

    pub from_entry : (k : K) (v : X) → get m k ≡ Some v → s (k, v) ≡ true → t (k, v) ≡ true → list_any t (filter s (entries m)) ≡ true
    from_entry k v e p q = from_list (entries m) k v (sym (get-entries m k) ∙ e) p q

  -- the same of one test alone
  module _ (t : K × X → Bool) where
    pub found_any : list_any t (entries m) ≡ true → (x : K × X) × ((get m x.0 ≡ Some x.1) × (t x ≡ true))
    found_any h = let r = found_entry (λ _. true) t (unfiltered t (entries m) ∙ h) in (r.0, (r.1.0, r.1.1.1))

    pub from_any : (k : K) (v : X) → get m k ≡ Some v → t (k, v) ≡ true → list_any t (entries m) ≡ true
    from_any k v e q = sym (unfiltered t (entries m)) ∙ from_entry (λ _. true) t k v e refl q
