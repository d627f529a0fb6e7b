-- A set that has exactly the keys whose entries pass a test has them in the order of the entries.
use Rattle.std.proofs.Common.{◌≡◌, Bool, true, false, cond, List, [], ◌∷◌, length, map, Some, None, is_some, T, refl, sym, ap, ◌∙◌}
use Rattle.std.specs.List.{filter, count_by, find, slice_get}
use Rattle.std.specs.Option.{option_map}
use Rattle.std.specs.declared.cmp.Ordering.{Ordering}
use Rattle.std.specs.declared.cmp.Ordering.TheVariants.{Less, Equal, Greater}
use Rattle.std.specs.Ordering.{is_eq}
use Rattle.std.specs.Cmp.{IsTotalOrder}
use Rattle.std.specs.FinMap.{FinMap, IsAntisymmetric, entries, entries_sorted, get, get-entries, len-entries}
use Rattle.std.specs.FinMap.Entries as list
use Rattle.std.specs.FinMap.Entries.{below_all, is_sorted, same_entries}
use Rattle.std.proofs.lemmas.List.{length-map}
use Rattle.std.proofs.lemmas.List.Sums.{length-filter}
use Rattle.fx_base.specs.Set as set
use Rattle.fx_base.specs.Set.{Set}
use Rattle.fx_base.specs.Passing.{passes}
use Rattle.fx_base.proofs.Cases.{both, first, second, unit_same}
use Rattle.fx_base.proofs.Sorted.{none_below}

abbrev bare : {K X : Type 0} → List (K × X) → List (K × Unit {0})
bare es = map (λ e. (e.0, tt)) es

keys-bare : {K X : Type 0} (es : List (K × X)) → map (λ e. e.0) (bare es) ≡ map (λ e. e.0) es
keys-bare [] = refl
keys-bare (e ∷ es) = ap (λ ks. e.0 ∷ ks) (keys-bare es)

first-filter : {K X : Type 0} (p : K × X → Bool) (es : List (K × X)) → slice_get (map (λ e. e.0) (filter p es)) 0 ≡ option_map (λ e. e.0) (find p es)
first-filter p [] = refl
first-filter p (e ∷ es) =
    elim (p e) as (λ b. slice_get (map (λ e. e.0) (cond b (e ∷ filter p es) (filter p es))) 0 ≡ option_map (λ e. e.0) (cond b (Some e) (find p es))) [
      | true ↦ refl
      | false ↦ first-filter p es
    ]

module _ {K X : Type 0} (R : K → K → Ordering) (p : K × X → Bool) where
  below-filter : (k : K) (es : List (K × X)) → T (below_all R k es) → T (below_all R k (bare (filter p es)))
  below-filter k [] h = tt
  below-filter k (e ∷ es) h =
      let rest = below-filter k es (second _ _ h) in
      elim (p e) as (λ b. T (below_all R k (bare (cond b (e ∷ filter p es) (filter p es))))) [ true ↦ both _ _ (first _ _ h) rest | false ↦ rest ]

  sorted-filter : (es : List (K × X)) → T (is_sorted R es) → T (is_sorted R (bare (filter p es)))
  sorted-filter [] h = tt
  sorted-filter (e ∷ es) h =
      let rest = sorted-filter es (second _ _ h) in
      elim (p e) as (λ b. T (is_sorted R (bare (cond b (e ∷ filter p es) (filter p es))))) [ true ↦ both _ _ (below-filter e.0 es (first _ _ h)) rest | false ↦ rest ]

  module _ (exact : IsAntisymmetric R) where
    find-filter : (q : K) (es : List (K × X)) → T (is_sorted R es) → is_some (list.find R q (bare (filter p es))) ≡ passes p q (list.find R q es)
    find-filter q [] h = refl
    find-filter q (e ∷ es) h =
        let rest = find-filter q es (second _ _ h) in
        let later = list.find R q (bare (filter p es)) in
        elim (R q e.0) as (λ r. R q e.0 ≡ r → is_some (list.find R q (bare (cond (p e) (e ∷ filter p es) (filter p es)))) ≡ passes p q (cond (is_eq r) (Some e.1) (list.find R q es))) [
          | Less ↦ λ t. elim (p e) as (λ b. is_some (list.find R q (bare (cond b (e ∷ filter p es) (filter p es)))) ≡ passes p q (list.find R q es)) [
            | true ↦ ap (λ r. is_some (cond (is_eq r) (Some tt) later)) t ∙ rest
            | false ↦ rest
          ]
          | Greater ↦ λ t. elim (p e) as (λ b. is_some (list.find R q (bare (cond b (e ∷ filter p es) (filter p es)))) ≡ passes p q (list.find R q es)) [
            | true ↦ ap (λ r. is_some (cond (is_eq r) (Some tt) later)) t ∙ rest
            | false ↦ rest
          ]
          | Equal ↦ λ t.
              let here : p e ≡ p (q, e.1) = ap (λ k. p (k, e.1)) (sym (exact q e.0 t)) in
              let gone : list.find R q es ≡ None = ap (λ k. list.find R k es) (exact q e.0 t) ∙ none_below R e.0 es (first _ _ h) in
              elim (p e) as (λ b. p e ≡ b → is_some (list.find R q (bare (cond b (e ∷ filter p es) (filter p es)))) ≡ p (q, e.1)) [
                | true ↦ λ is. ap (λ r. is_some (cond (is_eq r) (Some tt) later)) t ∙ (sym is ∙ here)
                | false ↦ λ is. rest ∙ ap (passes p q) gone ∙ (sym is ∙ here)
              ] refl
        ] refl

module _ {K X : Type 0} {R : K → K → Ordering} (o : IsTotalOrder R) (exact : IsAntisymmetric R) (p : K × X → Bool) (s : Set R) (m : FinMap R X) (is : (k : K) → set.contains s k ≡ passes p k (get m k)) where
  entries-filtered : entries s ≡ bare (filter p (entries m))
  entries-filtered =
      same_entries R o exact (entries s) (bare (filter p (entries m))) (entries_sorted s) (sorted-filter R p (entries m) (entries_sorted m)) (λ q.
      unit_same _ _ (
      ap is_some (sym (get-entries s q)) ∙ is q ∙ ap (passes p q) (get-entries m q)
      ∙ sym (find-filter R p exact q (entries m) (entries_sorted m))))

  -- its items, in order
  pub items-filtered : set.items s ≡ map (λ e. e.0) (filter p (entries m))
  items-filtered = ap (map (λ e. e.0)) entries-filtered ∙ keys-bare (filter p (entries m))

  -- how many there are
  pub len-filtered : set.len s ≡ count_by p (entries m)
  len-filtered = len-entries s ∙ ap length entries-filtered ∙ length-map (filter p (entries m)) (λ e. (e.0, tt)) ∙ length-filter p (entries m)

  -- the first of them
  pub first-filtered : slice_get (set.items s) 0 ≡ option_map (λ e. e.0) (find p (entries m))
  first-filtered = ap (λ ks. slice_get ks 0) items-filtered ∙ first-filter p (entries m)
