-- Entries by ascending keys of bytes: those below a key, and those above it.
use Rattle.std.proofs.Common.{◌≡◌, ℕ, Bool, true, false, cond, not, List, [], ◌∷◌, ◌++◌, map, filter, None, T, refl, sym, ap, ◌∙◌, subst}
use Rattle.std.proofs.lemmas.List.{map-append}
use Rattle.std.proofs.lemmas.List.Elements.{filter-append}
use Rattle.std.specs.List.{AllByRecursion}
use Rattle.std.specs.declared.cmp.Ordering.TheVariants.{Less, Equal, Greater}
use Rattle.std.specs.Ordering.{nat_cmp, is_eq, is_lt, ordering_reverse, eq_by_cmp}
use Rattle.std.specs.Cmp.{alike_right, eq_by_cmp_equiv}
use Rattle.std.specs.Cmp.Lexicographic.{slice_cmp, nat_list_cmp_total}
use Rattle.std.specs.FinMap as maps
use Rattle.std.specs.FinMap.{FinMap, put, find, is_sorted, entries, entries_sorted, get-entries, get-remove, entries-insert}
use Rattle.std.specs.FinMap.Entries.{below_all, by_order, same_entries, where_key, is_sorted-where_key, find-where_key}
use Rattle.fx_base.specs.Set as set
use Rattle.fx_base.proofs.Cases.{first, second, both, less}
use Rattle.fx_base.proofs.KeyCases.{bytes_exact}
use Rattle.fx_laws.proofs.EntryLookups.{is}
use Rattle.fx_dispatch.specs.Beside.{is_below, is_above, with_placed, left_out}

turned : {A : Type 0} (b : Bool) (x y : A) → cond (not b) x y ≡ cond b y x
turned true x y = refl
turned false x y = refl

-- ---- the order of two keys, from behind

behind : (k x : List ℕ) → slice_cmp nat_cmp k x ≡ Less → slice_cmp nat_cmp x k ≡ Greater
behind k x p = nat_list_cmp_total.antisymm x k ∙ ap ordering_reverse p

beside : (k x : List ℕ) → slice_cmp nat_cmp k x ≡ Equal → slice_cmp nat_cmp x k ≡ Equal
beside k x p = nat_list_cmp_total.antisymm x k ∙ ap ordering_reverse p

before : (k x : List ℕ) → slice_cmp nat_cmp k x ≡ Greater → slice_cmp nat_cmp x k ≡ Less
before k x p = nat_list_cmp_total.antisymm x k ∙ ap ordering_reverse p

module _ {X : Type 0} where
  abbrev pub lower : List ℕ → List (List ℕ × X) → List (List ℕ × X)
  lower k es = filter (λ e. is_below k e.0) es

  abbrev pub upper : List ℕ → List (List ℕ × X) → List (List ℕ × X)
  upper k es = filter (λ e. is_above k e.0) es

  abbrev pub others : List ℕ → List (List ℕ × X) → List (List ℕ × X)
  others k es = filter (λ e. not (is k e.0)) es

  -- a key below the first of some is below all
  below_first : (k x : List ℕ) (es : List (List ℕ × X)) → slice_cmp nat_cmp k x ≡ Less → T (below_all (slice_cmp nat_cmp) x es) → T (below_all (slice_cmp nat_cmp) k es)
  below_first k x [] p h = tt
  below_first k x (e ∷ es) p h =
      both _ _ (subst (λ r. T (is_lt r)) (sym (nat_list_cmp_total.trans k x e.0 p (less _ (first _ _ h)))) tt)
      (below_first k x es p (second _ _ h))

  none_lower : (k : List ℕ) (es : List (List ℕ × X)) → T (below_all (slice_cmp nat_cmp) k es) → lower k es ≡ []
  none_lower k [] h = refl
  none_lower k (e ∷ es) h =
      ap (λ r. cond (is_lt r) (e ∷ lower k es) (lower k es)) (behind k e.0 (less _ (first _ _ h)))
      ∙ none_lower k es (second _ _ h)

  all_upper : (k : List ℕ) (es : List (List ℕ × X)) → T (below_all (slice_cmp nat_cmp) k es) → upper k es ≡ es
  all_upper k [] h = refl
  all_upper k (e ∷ es) h =
      ap (λ r. cond (is_lt r) (e ∷ upper k es) (upper k es)) (less _ (first _ _ h))
      ∙ ap (λ fs. e ∷ fs) (all_upper k es (second _ _ h))

  -- an entry is put between those below it and those above it
  pub put_parts : (k : List ℕ) (v : X) (es : List (List ℕ × X)) → T (is_sorted (slice_cmp nat_cmp) es) → put (slice_cmp nat_cmp) k v es ≡ lower k es ++ (k, v) ∷ upper k es
  put_parts k v [] h = refl
  put_parts k v (e ∷ es) h =
      elim (slice_cmp nat_cmp k e.0) as (λ r. slice_cmp nat_cmp k e.0 ≡ r → by_order r ((k, v) ∷ e ∷ es) ((e.0, v) ∷ es) (e ∷ put (slice_cmp nat_cmp) k v es) ≡ cond (is_lt (slice_cmp nat_cmp e.0 k)) (e ∷ lower k es) (lower k es) ++ (k, v) ∷ cond (is_lt r) (e ∷ upper k es) (upper k es)) [
        | Less ↦ λ p.
            let low = below_first k e.0 es p (first _ _ h) in
            sym (ap (λ r. cond (is_lt r) (e ∷ lower k es) (lower k es) ++ (k, v) ∷ e ∷ upper k es) (behind k e.0 p)
            ∙ (λ i. none_lower k es low i ++ (k, v) ∷ e ∷ all_upper k es low i))
        | Equal ↦ λ p.
            let same = bytes_exact k e.0 p in
            let low = subst (λ j. T (below_all (slice_cmp nat_cmp) j es)) (sym same) (first _ _ h) in
            sym (ap (λ r. cond (is_lt r) (e ∷ lower k es) (lower k es) ++ (k, v) ∷ upper k es) (beside k e.0 p)
            ∙ (λ i. none_lower k es low i ++ (same i, v) ∷ all_upper k es low i))
        | Greater ↦ λ p.
            ap (λ fs. e ∷ fs) (put_parts k v es (second _ _ h))
            ∙ ap (λ r. cond (is_lt r) (e ∷ lower k es) (lower k es) ++ (k, v) ∷ upper k es) (sym (before k e.0 p))
      ] refl

  -- the entries at other keys are those below and those above
  pub others_parts : (k : List ℕ) (es : List (List ℕ × X)) → T (is_sorted (slice_cmp nat_cmp) es) → others k es ≡ lower k es ++ upper k es
  others_parts k [] h = refl
  others_parts k (e ∷ es) h =
      let rest = others_parts k es (second _ _ h) in
      elim (slice_cmp nat_cmp k e.0) as (λ r. slice_cmp nat_cmp k e.0 ≡ r → cond (not (is_eq r)) (e ∷ others k es) (others k es) ≡ cond (is_lt (slice_cmp nat_cmp e.0 k)) (e ∷ lower k es) (lower k es) ++ cond (is_lt r) (e ∷ upper k es) (upper k es)) [
        | Less ↦ λ p.
            let none = none_lower k es (below_first k e.0 es p (first _ _ h)) in
            ap (λ fs. e ∷ fs) (rest ∙ ap (λ fs. fs ++ upper k es) none)
            ∙ ap (λ fs. fs ++ e ∷ upper k es) (sym none)
            ∙ ap (λ r. cond (is_lt r) (e ∷ lower k es) (lower k es) ++ e ∷ upper k es) (sym (behind k e.0 p))
        | Equal ↦ λ p. rest ∙ ap (λ r. cond (is_lt r) (e ∷ lower k es) (lower k es) ++ upper k es) (sym (beside k e.0 p))
        | Greater ↦ λ p. ap (λ fs. e ∷ fs) rest ∙ ap (λ r. cond (is_lt r) (e ∷ lower k es) (lower k es) ++ upper k es) (sym (before k e.0 p))
      ] refl

  -- what is left where a key is removed
  pub entries-remove : (m : FinMap (slice_cmp nat_cmp) X) (k : List ℕ) → entries (maps.remove m k) ≡ others k (entries m)
  entries-remove m k =
      let test : List ℕ → Bool = λ x. not (eq_by_cmp (slice_cmp nat_cmp) k x) in
      same_entries (slice_cmp nat_cmp) nat_list_cmp_total bytes_exact (entries (maps.remove m k)) (where_key (slice_cmp nat_cmp) test (entries m))
      (entries_sorted (maps.remove m k)) (is_sorted-where_key (slice_cmp nat_cmp) test (entries m) (entries_sorted m)) (λ q.
      sym (get-entries (maps.remove m k) q) ∙ get-remove nat_list_cmp_total m k q ∙ ap (cond (is q k) None) (get-entries m q)
      ∙ sym (find-where_key (slice_cmp nat_cmp) test q (λ x t. ap (λ r. not (is_eq r)) (sym (alike_right nat_list_cmp_total q x k t))) (entries m)
      ∙ turned (is k q) (find (slice_cmp nat_cmp) q (entries m)) None
      ∙ ap (λ b. cond b None (find (slice_cmp nat_cmp) q (entries m))) ((eq_by_cmp_equiv nat_list_cmp_total).symm k q)))

  -- ---- the keys alone

  keys-filter : (t : List ℕ → Bool) (es : List (List ℕ × X)) → map (λ e. e.0) (filter (λ e. t e.0) es) ≡ filter t (map (λ e. e.0) es)
  keys-filter t [] = refl
  keys-filter t (e ∷ es) =
      elim (t e.0) as (λ b. map (λ f. f.0) (cond b (e ∷ filter (λ f. t f.0) es) (filter (λ f. t f.0) es)) ≡ cond b (e.0 ∷ filter t (map (λ f. f.0) es)) (filter t (map (λ f. f.0) es))) [
        | true ↦ ap (λ ks. e.0 ∷ ks) (keys-filter t es)
        | false ↦ keys-filter t es
      ]

  -- a key that doesn't pass a test is not seen among those that do, whether it comes
  passed_put : (g : List ℕ → Bool) (k : List ℕ) (v : X) (es : List (List ℕ × X)) → g k ≡ false → filter g (map (λ e. e.0) (put (slice_cmp nat_cmp) k v es)) ≡ filter g (map (λ e. e.0) es)
  passed_put g k v [] fails = ap (λ t. cond t (k ∷ []) []) fails
  passed_put g k v (e ∷ es) fails =
      let rest = filter g (map (λ (f : List ℕ × X). f.0) es) in
      elim (slice_cmp nat_cmp k e.0) as (λ r. filter g (map (λ f. f.0) (by_order r ((k, v) ∷ e ∷ es) ((e.0, v) ∷ es) (e ∷ put (slice_cmp nat_cmp) k v es))) ≡ cond (g e.0) (e.0 ∷ rest) rest) [
        | Less ↦ ap (λ t. cond t (k ∷ cond (g e.0) (e.0 ∷ rest) rest) (cond (g e.0) (e.0 ∷ rest) rest)) fails
        | Equal ↦ refl
        | Greater ↦ ap (λ ks. cond (g e.0) (e.0 ∷ ks) ks) (passed_put g k v es fails)
      ]

  -- or goes
  passed_others : (g : List ℕ → Bool) (k : List ℕ) (es : List (List ℕ × X)) → g k ≡ false → filter g (map (λ e. e.0) (others k es)) ≡ filter g (map (λ e. e.0) es)
  passed_others g k [] fails = refl
  passed_others g k (e ∷ es) fails =
      let rest = filter g (map (λ (f : List ℕ × X). f.0) es) in
      let later = passed_others g k es fails in
      elim (slice_cmp nat_cmp k e.0) as (λ r. slice_cmp nat_cmp k e.0 ≡ r → filter g (map (λ f. f.0) (cond (not (is_eq r)) (e ∷ others k es) (others k es))) ≡ cond (g e.0) (e.0 ∷ rest) rest) [
        | Less ↦ λ p. ap (λ ks. cond (g e.0) (e.0 ∷ ks) ks) later
        | Equal ↦ λ p. later ∙ ap (λ t. cond t (e.0 ∷ rest) rest) (sym (ap g (sym (bytes_exact k e.0 p)) ∙ fails))
        | Greater ↦ λ p. ap (λ ks. cond (g e.0) (e.0 ∷ ks) ks) later
      ] refl

-- ---- two tests, in either order

filter-swap : (g h : List ℕ → Bool) (xs : List (List ℕ)) → filter g (filter h xs) ≡ filter h (filter g xs)
filter-swap g h [] = refl
filter-swap g h (x ∷ xs) =
    let gs = filter g (filter h xs) in
    let hs = filter h (filter g xs) in
    elim (g x) as (λ b. g x ≡ b → filter g (cond (h x) (x ∷ filter h xs) (filter h xs)) ≡ filter h (cond b (x ∷ filter g xs) (filter g xs))) [
      | true ↦ λ p. elim (h x) as (λ c. filter g (cond c (x ∷ filter h xs) (filter h xs)) ≡ cond c (x ∷ hs) hs) [
        | true ↦ ap (λ b. cond b (x ∷ gs) gs) p ∙ ap (λ ys. x ∷ ys) (filter-swap g h xs)
        | false ↦ filter-swap g h xs
      ]
      | false ↦ λ p. elim (h x) as (λ c. filter g (cond c (x ∷ filter h xs) (filter h xs)) ≡ hs) [
        | true ↦ ap (λ b. cond b (x ∷ gs) gs) p ∙ filter-swap g h xs
        | false ↦ filter-swap g h xs
      ]
    ] refl

module _ (g : List ℕ → Bool) (x : List ℕ) (xs : List (List ℕ)) where
  -- a test finds a name that came and passes at its place
  pub placed_filtered : g x ≡ true → filter g (with_placed x xs) ≡ with_placed x (filter g xs)
  placed_filtered holds =
      filter-append g (filter (is_below x) xs) (x ∷ filter (is_above x) xs)
      ∙ (λ i. filter-swap g (is_below x) xs i ++ cond (holds i) (x ∷ filter g (filter (is_above x) xs)) (filter g (filter (is_above x) xs)))
      ∙ ap (λ ys. filter (is_below x) (filter g xs) ++ x ∷ ys) (filter-swap g (is_above x) xs)

  pub left_filtered : filter g (left_out x xs) ≡ left_out x (filter g xs)
  left_filtered =
      filter-append g (filter (is_below x) xs) (filter (is_above x) xs)
      ∙ (λ i. filter-swap g (is_below x) xs i ++ filter-swap g (is_above x) xs i)

-- ---- a set with one item more, and without one

module _ (s : set.Set (slice_cmp nat_cmp)) (x : List ℕ) where
  pub items-insert : set.items (set.insert s x) ≡ with_placed x (set.items s)
  items-insert =
      ap (map (λ e. e.0)) (entries-insert nat_list_cmp_total s x tt ∙ put_parts x tt (entries s) (entries_sorted s))
      ∙ map-append (λ e. e.0) (lower x (entries s)) ((x, tt) ∷ upper x (entries s))
      ∙ (λ i. keys-filter (is_below x) (entries s) i ++ x ∷ keys-filter (is_above x) (entries s) i)

  pub items-remove : set.items (set.remove s x) ≡ left_out x (set.items s)
  items-remove =
      ap (map (λ e. e.0)) (entries-remove s x ∙ others_parts x (entries s) (entries_sorted s))
      ∙ map-append (λ e. e.0) (lower x (entries s)) (upper x (entries s))
      ∙ (λ i. keys-filter (is_below x) (entries s) i ++ keys-filter (is_above x) (entries s) i)

  module _ (g : List ℕ → Bool) (fails : g x ≡ false) where
    pub passed-insert : filter g (set.items (set.insert s x)) ≡ filter g (set.items s)
    passed-insert = ap (λ es. filter g (map (λ e. e.0) es)) (entries-insert nat_list_cmp_total s x tt) ∙ passed_put g x tt (entries s) fails

    pub passed-remove : filter g (set.items (set.remove s x)) ≡ filter g (set.items s)
    passed-remove = ap (λ es. filter g (map (λ e. e.0) es)) (entries-remove s x) ∙ passed_others g x (entries s) fails

-- ---- what holds of all names

pub all_filter : (P : List ℕ → Type 0) (t : List ℕ → Bool) (xs : List (List ℕ)) → AllByRecursion P xs → AllByRecursion P (filter t xs)
all_filter P t [] h = tt
all_filter P t (x ∷ xs) h = elim (t x) as (λ b. AllByRecursion P (cond b (x ∷ filter t xs) (filter t xs))) [ true ↦ (h.0, all_filter P t xs h.1) | false ↦ all_filter P t xs h.1 ]
