-- Maps whose values are made of those of others: what stands in one that has the values of another map changed, and in one that has
-- those of two.
use Rattle.std.proofs.Common.{◌≡◌, Bool, true, false, not, ◌&&◌, ◌||◌, cond, List, [], ◌∷◌, map, Option, Some, None, refl, sym, ap, ◌∙◌, subst}
use Rattle.std.specs.Prelude.{T, filter, option_map}
use Rattle.std.specs.Option.{option_or}
use Rattle.std.specs.List.{list_any, AllByRecursion}
use Rattle.std.specs.Ordering.{is_eq, is_lt}
use Rattle.std.specs.declared.cmp.Ordering.{Ordering}
use Rattle.std.specs.declared.cmp.Ordering.TheVariants.{Less, Equal, Greater}
use Rattle.std.specs.Cmp.{IsTotalOrder}
use Rattle.std.specs.FinMap.{FinMap, IsAntisymmetric, entries, entries_sorted, get, get-entries}
use Rattle.std.specs.FinMap.Entries.{find, is_sorted, below_all, where_key, is_sorted-where_key, find-where_key, same_entries}
use Rattle.fx_base.proofs.Found.{each, entries_found}
use Rattle.fx_kube_laws.proofs.Lists.{any-map, or_none}

swapped : (a b c : Bool) → (a || (b || c)) ≡ (b || (a || c))
swapped true true c = refl
swapped true false c = refl
swapped false b c = refl

-- a test of all elements by those that pass another and those that don't
any-parted : {A : Type 0} (f p : A → Bool) (xs : List A) → list_any f xs ≡ (list_any f (filter p xs) || list_any f (filter (λ x. not (p x)) xs))
any-parted f p [] = refl
any-parted {A = A} f p (x ∷ xs) =
    elim (p x) as (λ b. (f x || list_any f xs) ≡ (list_any f (cond b (x ∷ filter p xs) (filter p xs)) || list_any f (cond (not b) (x ∷ filter (λ y. not (p y)) xs) (filter (λ y. not (p y)) xs)))) [
      | true ↦ ap (λ b. f x || b) (any-parted f p xs) ∙ grouped (f x) (list_any f (filter p xs)) (list_any f (filter (λ y. not (p y)) xs))
      | false ↦ ap (λ b. f x || b) (any-parted f p xs) ∙ swapped (f x) (list_any f (filter p xs)) (list_any f (filter (λ y. not (p y)) xs))
    ]
  where
    grouped : (a b c : Bool) → (a || (b || c)) ≡ ((a || b) || c)
    grouped true b c = refl
    grouped false b c = refl

-- elements that fail one test fail another, so that the first may go before
filter-parted : {A : Type 0} (f p : A → Bool) (xs : List A) → AllByRecursion (λ x. p x ≡ false → f x ≡ false) xs → filter f xs ≡ filter f (filter p xs)
filter-parted f p [] h = refl
filter-parted {A = A} f p (x ∷ xs) h =
    elim (p x) as (λ b. (b ≡ false → f x ≡ false) → filter f (x ∷ xs) ≡ filter f (cond b (x ∷ filter p xs) (filter p xs))) [
      | true ↦ λ fails. ap (λ (l : List A). cond (f x) (x ∷ l) l) (filter-parted f p xs h.1)
      | false ↦ λ fails. ap (λ b. cond b (x ∷ filter f xs) (filter f xs)) (fails refl) ∙ filter-parted f p xs h.1
    ] h.0

module _ {K : Type 0} {R : K → K → Ordering} (o : IsTotalOrder R) (exact : IsAntisymmetric R) where
  -- ---- one map

  module _ {X Y : Type 0} (f : K → X → Y) where
    -- an entry with its value changed
    abbrev pub valued : K × X → K × Y
    valued e = (e.0, f e.0 e.1)

    below-valued : (x : K) (es : List (K × X)) → below_all R x (map valued es) ≡ below_all R x es
    below-valued x [] = refl
    below-valued x (e ∷ es) = ap (λ b. is_lt (R x e.0) && b) (below-valued x es)

    sorted-valued : (es : List (K × X)) → is_sorted R (map valued es) ≡ is_sorted R es
    sorted-valued [] = refl
    sorted-valued (e ∷ es) = (λ i. below-valued e.0 es i && sorted-valued es i)

    pub find-valued : (q : K) (es : List (K × X)) → find R q (map valued es) ≡ option_map (f q) (find R q es)
    find-valued q [] = refl
    find-valued q (e ∷ es) =
        elim (R q e.0) as (λ r. R q e.0 ≡ r → cond (is_eq r) (Some (f e.0 e.1)) (find R q (map valued es)) ≡ option_map (f q) (cond (is_eq r) (Some e.1) (find R q es))) [
          | Less ↦ λ p. find-valued q es
          | Equal ↦ λ p. ap (λ k. Some (f k e.1)) (sym (exact q e.0 p))
          | Greater ↦ λ p. find-valued q es
        ] refl

    valued_sorted : (n : FinMap R X) → T (is_sorted R (map valued (entries n)))
    valued_sorted n = subst (λ b. T b) (sym (sorted-valued (entries n))) (entries_sorted n)

    -- a map with the values of another, changed
    pub entries-valued : (m : FinMap R Y) (n : FinMap R X) → ((q : K) → get m q ≡ option_map (f q) (get n q)) → entries m ≡ map valued (entries n)
    entries-valued m n is =
        same_entries R o exact (entries m) (map valued (entries n)) (entries_sorted m) (valued_sorted n)
        (λ q. sym (get-entries m q) ∙ (is q ∙ (ap (option_map (f q)) (get-entries n q) ∙ sym (find-valued q (entries n)))))

  -- ---- two maps

  -- a map with the values of one map at some keys, and with those of another, changed, at all others
  module _ {X Y : Type 0} (g : Y → X) (ours : K → Bool) (m n : FinMap R X) (s : FinMap R Y) (is : (q : K) → get m q ≡ option_or (option_map g (get s q)) (get n q)) (not_s : (q : K) → ours q ≡ true → get s q ≡ None) (not_n : (q : K) → ours q ≡ false → get n q ≡ None) where
    at-ours : (q : K) → cond (ours q) (get m q) None ≡ get n q
    at-ours q = by (ours q) refl
      where
        by : (b : Bool) → ours q ≡ b → cond b (get m q) None ≡ get n q
        by true e = is q ∙ ap (λ (p : Option Y). option_or (option_map g p) (get n q)) (not_s q e)
        by false e = sym (not_n q e)

    at-theirs : (q : K) → cond (not (ours q)) (get m q) None ≡ option_map g (get s q)
    at-theirs q = by (ours q) refl
      where
        by : (b : Bool) → ours q ≡ b → cond (not b) (get m q) None ≡ option_map g (get s q)
        by true e = sym (ap (option_map g) (not_s q e))
        by false e = is q ∙ (ap (option_or (option_map g (get s q))) (not_n q e) ∙ or_none (option_map g (get s q)))

    pub entries-ours : where_key R ours (entries m) ≡ entries n
    entries-ours =
        same_entries R o exact (where_key R ours (entries m)) (entries n) (is_sorted-where_key R ours (entries m) (entries_sorted m)) (entries_sorted n)
        (λ q. find-where_key R ours q (λ x t. ap ours (sym (exact q x t))) (entries m) ∙ (ap (λ (r : Option X). cond (ours q) r None) (sym (get-entries m q)) ∙ (at-ours q ∙ get-entries n q)))

    pub entries-theirs : where_key R (λ q. not (ours q)) (entries m) ≡ map (valued (λ k y. g y)) (entries s)
    entries-theirs =
        same_entries R o exact (where_key R (λ q. not (ours q)) (entries m)) (map (valued (λ k y. g y)) (entries s)) (is_sorted-where_key R (λ q. not (ours q)) (entries m) (entries_sorted m)) (valued_sorted (λ k y. g y) s)
        (λ q. find-where_key R (λ x. not (ours x)) q (λ x t. ap (λ k. not (ours k)) (sym (exact q x t))) (entries m)
        ∙ (ap (λ (r : Option X). cond (not (ours q)) r None) (sym (get-entries m q))
        ∙ (at-theirs q ∙ (ap (option_map g) (get-entries s q) ∙ sym (find-valued (λ k y. g y) q (entries s))))))

    -- a test of the entries is one of the entries of both maps
    pub any-both : (f : K × X → Bool) → list_any f (entries m) ≡ (list_any f (entries n) || list_any (λ e. f (e.0, g e.1)) (entries s))
    any-both f =
        any-parted f (λ e. ours e.0) (entries m)
        ∙ ((λ i. list_any f (entries-ours i) || list_any f (entries-theirs i))
        ∙ ap (λ b. list_any f (entries n) || b) (any-map f (valued (λ k y. g y)) (entries s)))

    -- a test that no value of the second map passes is one of the first
    pub filter-ours : (test : X → Bool) → ((y : Y) → test (g y) ≡ false) → filter (λ e. test e.1) (entries m) ≡ filter (λ e. test e.1) (entries n)
    filter-ours test fails =
        filter-parted (λ e. test e.1) (λ e. ours e.0) (entries m)
        (each (λ e. get m e.0 ≡ Some e.1) (λ e. ours e.0 ≡ false → test e.1 ≡ false) (λ e there ours_not. of_theirs e.1 (get s e.0) (sym there ∙ (is e.0 ∙ (ap (option_or (option_map g (get s e.0))) (not_n e.0 ours_not) ∙ or_none (option_map g (get s e.0)))))) (entries m) (entries_found o m))
        ∙ ap (filter (λ e. test e.1)) entries-ours
      where
        of_theirs : (x : X) (p : Option Y) → Some x ≡ option_map g p → test x ≡ false
        of_theirs x None e = cc
        of_theirs x (Some y) e = (let same : x ≡ g y = cc in ap test same ∙ fails y)
