-- The entries of a map that has at each key what a function makes of another map's value there.
use Rattle.std.proofs.Common.{◌≡◌, Bool, true, false, cond, List, [], ◌∷◌, map, Option, Some, None, is_some, T, refl, sym, ap, ◌∙◌}
use Rattle.std.specs.Prelude.{filter, option_map}
use Rattle.std.specs.declared.cmp.Ordering.{Ordering}
use Rattle.std.specs.declared.cmp.Ordering.TheVariants.{Less, Equal, Greater}
use Rattle.std.specs.Ordering.{is_lt, is_eq}
use Rattle.std.specs.Cmp.{IsTotalOrder}
use Rattle.std.specs.FinMap.{FinMap, IsAntisymmetric, find, is_sorted, entries, entries_sorted, get, get-entries}
use Rattle.std.specs.FinMap.Entries.{below_all, same_entries}
use Rattle.fx_base.proofs.Cases.{first, second, both, less}

-- what is made of a value that may be absent
abbrev pub value_at : {K X Y : Type 0} → (K → X → Option Y) → K → Option X → Option Y
value_at f k None = None
value_at f k (Some x) = f k x

-- with an entry more, if there is a value
abbrev pub with_value : {K Y : Type 0} → K → Option Y → List (K × Y) → List (K × Y)
with_value k None es = es
with_value k (Some y) es = (k, y) ∷ es

abbrev pub mapped : {K X Y : Type 0} → (K → X → Option Y) → List (K × X) → List (K × Y)
mapped f [] = []
mapped f (e ∷ es) = with_value e.0 (f e.0 e.1) (mapped f es)

-- ---- in order, and what is found

module _ {K Y : Type 0} (R : K → K → Ordering) where
  none_below : (q : K) (es : List (K × Y)) → T (below_all R q es) → find R q es ≡ None
  none_below q [] h = refl
  none_below q (e ∷ es) h = ap (λ r. cond (is_eq r) (Some e.1) (find R q es)) (less _ (first _ _ h)) ∙ none_below q es (second _ _ h)

  below-value : (q k : K) (o : Option Y) (es : List (K × Y)) → T (is_lt (R q k)) → T (below_all R q es) → T (below_all R q (with_value k o es))
  below-value q k None es g h = h
  below-value q k (Some y) es g h = both _ _ g h

  sorted-value : (k : K) (o : Option Y) (es : List (K × Y)) → T (below_all R k es) → T (is_sorted R es) → T (is_sorted R (with_value k o es))
  sorted-value k None es g h = h
  sorted-value k (Some y) es g h = both _ _ g h

  find-other : (q k : K) (o : Option Y) (es : List (K × Y)) → is_eq (R q k) ≡ false → find R q (with_value k o es) ≡ find R q es
  find-other q k None es h = refl
  find-other q k (Some y) es h = ap (λ b. cond b (Some y) (find R q es)) h

  find-here : (q k : K) (o : Option Y) (es : List (K × Y)) → is_eq (R q k) ≡ true → find R q es ≡ None → find R q (with_value k o es) ≡ o
  find-here q k None es h none = none
  find-here q k (Some y) es h none = ap (λ b. cond b (Some y) (find R q es)) h

module _ {K X Y : Type 0} (R : K → K → Ordering) (f : K → X → Option Y) where
  below-mapped : (q : K) (es : List (K × X)) → T (below_all R q es) → T (below_all R q (mapped f es))
  below-mapped q [] h = tt
  below-mapped q (e ∷ es) h = below-value R q e.0 (f e.0 e.1) (mapped f es) (first _ _ h) (below-mapped q es (second _ _ h))

  sorted-mapped : (es : List (K × X)) → T (is_sorted R es) → T (is_sorted R (mapped f es))
  sorted-mapped [] h = tt
  sorted-mapped (e ∷ es) h = sorted-value R e.0 (f e.0 e.1) (mapped f es) (below-mapped e.0 es (first _ _ h)) (sorted-mapped es (second _ _ h))

  find-mapped : IsAntisymmetric R → (q : K) (es : List (K × X)) → T (is_sorted R es) → find R q (mapped f es) ≡ value_at f q (find R q es)
  find-mapped exact q [] s = refl
  find-mapped exact q (e ∷ es) s =
      elim (R q e.0) as (λ r. R q e.0 ≡ r → find R q (with_value e.0 (f e.0 e.1) (mapped f es)) ≡ value_at f q (cond (is_eq r) (Some e.1) (find R q es))) [
        | Less ↦ λ p. find-other R q e.0 (f e.0 e.1) (mapped f es) (ap is_eq p) ∙ find-mapped exact q es (second _ _ s)
        | Equal ↦ λ p.
            find-here R q e.0 (f e.0 e.1) (mapped f es) (ap is_eq p)
            (ap (λ k. find R k (mapped f es)) (exact q e.0 p) ∙ none_below R e.0 (mapped f es) (below-mapped e.0 es (first _ _ s)))
            ∙ ap (λ k. f k e.1) (sym (exact q e.0 p))
        | Greater ↦ λ p. find-other R q e.0 (f e.0 e.1) (mapped f es) (ap is_eq p) ∙ find-mapped exact q es (second _ _ s)
      ] refl

-- what is made of each entry, where the map has that at each key
pub entries_mapped : {K X Y : Type 0} {R : K → K → Ordering} (o : IsTotalOrder R) → IsAntisymmetric R → (f : K → X → Option Y) (m : FinMap R X) (n : FinMap R Y) → ((q : K) → get n q ≡ value_at f q (get m q)) → entries n ≡ mapped f (entries m)
entries_mapped {R = R} o exact f m n are =
    same_entries R o exact (entries n) (mapped f (entries m)) (entries_sorted n) (sorted-mapped R f (entries m) (entries_sorted m)) (λ q.
    sym (get-entries n q) ∙ are q ∙ ap (value_at f q) (get-entries m q) ∙ sym (find-mapped R f exact q (entries m) (entries_sorted m)))

-- ---- values that are kept or left out by a test

abbrev pub kept : {K X Y : Type 0} → (K → X → Bool) → (K → X → Y) → K → X → Option Y
kept p g k x = cond (p k x) (Some (g k x)) None

pub mapped-kept : {K X Y : Type 0} (p : K → X → Bool) (g : K → X → Y) (es : List (K × X)) → mapped (kept p g) es ≡ map (λ e. (e.0, g e.0 e.1)) (filter (λ e. p e.0 e.1) es)
mapped-kept p g [] = refl
mapped-kept p g (e ∷ es) =
    elim (p e.0 e.1) as (λ b. with_value e.0 (cond b (Some (g e.0 e.1)) None) (mapped (kept p g) es) ≡ map (λ e. (e.0, g e.0 e.1)) (cond b (e ∷ filter (λ e. p e.0 e.1) es) (filter (λ e. p e.0 e.1) es))) [
      | true ↦ ap (λ ys. (e.0, g e.0 e.1) ∷ ys) (mapped-kept p g es)
      | false ↦ mapped-kept p g es
    ]

-- each value is made into another one
pub mapped-each : {K X Y : Type 0} (g : K → X → Y) (es : List (K × X)) → mapped (λ k x. Some (g k x)) es ≡ map (λ e. (e.0, g e.0 e.1)) es
mapped-each g [] = refl
mapped-each g (e ∷ es) = ap (λ ys. (e.0, g e.0 e.1) ∷ ys) (mapped-each g es)

-- what is made of a value is there where the value is
pub is_mapped : {A B : Type 0} (f : A → B) (o : Option A) → is_some (option_map f o) ≡ is_some o
is_mapped f None = refl
is_mapped f (Some x) = refl

-- all values are kept as they are
pub same_each : {A : Type 0} (xs : List A) → map (λ x. x) xs ≡ xs
same_each [] = refl
same_each (x ∷ xs) = ap (λ ys. x ∷ ys) (same_each xs)
