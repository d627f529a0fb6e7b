-- What a binary search among entries finds that stand in the order of their texts, and what is put there.
use Rattle.std.proofs.Common.{◌≡◌, ℕ, zero, suc, ◌+◌, ◌<◌, ◌≤◌, cond, List, [], ◌∷◌, length, get_or, Some, None, Result, Ok, Err, IfOk, IfErr, Ordering, Less, Equal, Greater, refl, sym, ap, ◌∙◌, arith}
use Rattle.std.specs.Ordering.{nat_cmp, match_ordering, ordering_reverse, is_lt, is_eq}
use Rattle.std.specs.Cmp.Lexicographic.{slice_cmp, nat_list_cmp_total}
use Rattle.std.specs.List.{AllByRecursion, AllWithin, insert}
use Rattle.std.specs.List.Sorted.{IsStrictlySortedBy, IsSortedBy, IsSearchInRange, IsBinarySearchResult}
use Rattle.std.specs.Map.{lookup, keys_of}
use Rattle.std.specs.BTreeMap.{is_at, insert_entry}
use Rattle.std.proofs.lemmas.List.Sorted.{searchable_from_sorted}
use Rattle.std.proofs.lemmas.Map.Keys.{sorted_head, sorted_tail}
use Rattle.std.specs.FinMap as map
use Rattle.std.specs.FinMap.{from_entries, nat_cmp-IsAntisymmetric, slice_cmp-IsAntisymmetric}
use Rattle.fx_base.specs.TextPlaces.{Ascends, StandsAt, BelongsAt}
use Rattle.fx_base.proofs.Entries.{placed}

abbrev order : List ℕ → List ℕ → Ordering
order = slice_cmp nat_cmp

-- the other way round
turned : (x y : List ℕ) → order x y ≡ Less → order y x ≡ Greater
turned x y h = nat_list_cmp_total.antisymm y x ∙ ap ordering_reverse h

turned_back : (x y : List ℕ) → order x y ≡ Greater → order y x ≡ Less
turned_back x y h = nat_list_cmp_total.antisymm y x ∙ ap ordering_reverse h

abbrev pub Entry : Type 0 → Type 0
Entry V = List ℕ × V

abbrev pub Entries : Type 0 → Type 0
Entries V = List (Entry V)

module _ {V : Type 0} where
  -- what holds of all texts holds of the one at a place
  key_at : (P : List ℕ → Type 0) (es : Entries V) → AllByRecursion P (keys_of es) → (at : ℕ) → at < length es → (d : Entry V) → P (get_or es at d).0
  key_at P [] h at l d = absurd (omega (arith, l))
  key_at P (e ∷ es) h zero l d = h.0
  key_at P (e ∷ es) h (suc at) l d = key_at P es h.1 at (omega (arith, l)) d

  rest_ascends : (e : Entry V) (es : Entries V) → Ascends (e ∷ es) → Ascends es
  rest_ascends e es h = sorted_tail order e.0 (keys_of es) h

  first_below : (e : Entry V) (es : Entries V) → Ascends (e ∷ es) → AllByRecursion (λ y. order e.0 y ≡ Less) (keys_of es)
  first_below e es h = sorted_head order e.0 (keys_of es) h

  -- each text is below the next
  next_above : (es : Entries V) → Ascends es → (at : ℕ) (d : Entry V) → suc at < length es → order (get_or es at d).0 (get_or es (suc at) d).0 ≡ Less
  next_above [] h at d l = absurd (omega (arith, l))
  next_above (e ∷ es) h zero d l = key_at (λ y. order e.0 y ≡ Less) es (first_below e es h) zero (omega (arith, l)) d
  next_above (e ∷ es) h (suc at) d l = next_above es (rest_ascends e es h) at d (omega (arith, l))

  -- as a binary search asks for it
  is_sorted : (es : Entries V) → Ascends es → IsSortedBy (λ (a b : Entry V). is_lt (order a.0 b.0)) es
  is_sorted es h at d low l =
      let next : at + 1 ≡ suc at = omega arith in
      rw next (ap is_lt (turned (get_or es at d).0 (get_or es (suc at) d).0 (next_above es h at d (omega (arith, l)))))

  module _ (k : List ℕ) where
    stands : (es : Entries V) → Ascends es → (at : ℕ) → at < length es → ((d : Entry V) → order (get_or es at d).0 k ≡ Equal) → StandsAt k es at
    stands [] h at l same = absurd (omega (arith, l))
    stands (e ∷ es) h zero l same = nat_list_cmp_total.antisymm k e.0 ∙ ap ordering_reverse (same e)
    stands (e ∷ es) h (suc at) l same =
        let there = (get_or es at e).0 in
        let below = key_at (λ y. order e.0 y ≡ Less) es (first_below e es h) at (omega (arith, l)) e in
        (sym (nat_list_cmp_total.congr there k e.0 (same e)) ∙ turned e.0 there below, stands es (rest_ascends e es h) at (omega (arith, l)) same)

    belongs : (es : Entries V) (at : ℕ) → at ≤ length es → AllWithin (λ (e : Entry V). order e.0 k ≡ Less) es 0 at → AllWithin (λ (e : Entry V). order e.0 k ≡ Greater) es at (length es) → BelongsAt k es at
    belongs [] zero l before after = tt
    belongs [] (suc at) l before after = absurd (omega (arith, l))
    belongs (e ∷ es) zero l before after = turned_back e.0 k (after zero e (omega arith) (omega arith))
    belongs (e ∷ es) (suc at) l before after = (
      turned e.0 k (before zero e (omega arith) (omega arith)),
      belongs es at (omega (arith, l)) (λ j d low high. before (suc j) d (omega arith) (omega (arith, high))) (λ j d low high. after (suc j) d (omega (arith, low)) (omega (arith, high))),
    )

    -- what a binary search answers
    pub searched : (es : Entries V) → Ascends es → (r : Result ℕ ℕ) → IsSearchInRange r (length es) → IsBinarySearchResult (λ (e : Entry V). order e.0 k) es r → IfOk r (StandsAt k es) × IfErr r (BelongsAt k es)
    searched es h (Ok at) inside same = (stands es h at inside same, tt)
    searched es h (Err at) inside parted =
        let both = parted (searchable_from_sorted nat_list_cmp_total (λ (e : Entry V). e.0) es k (is_sorted es h)) in
        (tt, belongs es at inside both.0 both.1)

    -- an entry that stands there is the one of the text
    pub found_there : (es : Entries V) (at : ℕ) → StandsAt k es at → (d : Entry V) → lookup (is_at (order k)) es ≡ Some (get_or es at d).1
    found_there [] at h d = absurd h
    found_there (e ∷ es) zero h d = ap (λ r. cond (is_eq r) (Some e.1) (lookup (is_at (order k)) es)) h
    found_there (e ∷ es) (suc at) h d = ap (λ r. cond (is_eq r) (Some e.1) (lookup (is_at (order k)) es)) h.0 ∙ found_there es at h.1 d

    -- and it has the text
    pub key_there : (es : Entries V) (at : ℕ) → StandsAt k es at → (d : Entry V) → (get_or es at d).0 ≡ k
    key_there [] at h d = absurd h
    key_there (e ∷ es) zero h d = sym (slice_cmp-IsAntisymmetric nat_cmp-IsAntisymmetric k e.0 h)
    key_there (e ∷ es) (suc at) h d = key_there es at h.1 d

    pub stands_inside : (es : Entries V) (at : ℕ) → StandsAt k es at → at < length es
    stands_inside [] at h = absurd h
    stands_inside (e ∷ es) zero h = omega arith
    stands_inside (e ∷ es) (suc at) h = omega (arith, stands_inside es at h.1)

    pub belongs_inside : (es : Entries V) (at : ℕ) → BelongsAt k es at → at ≤ length es
    belongs_inside [] zero h = omega arith
    belongs_inside [] (suc at) h = absurd h
    belongs_inside (e ∷ es) zero h = omega arith
    belongs_inside (e ∷ es) (suc at) h = omega (arith, belongs_inside es at h.1)

    -- a text below the first is below all
    below_all : (e : Entry V) (es : Entries V) → order k e.0 ≡ Less → AllByRecursion (λ y. order e.0 y ≡ Less) (keys_of es) → AllByRecursion (λ y. order k y ≡ Less) (keys_of es)
    below_all e [] h a = tt
    below_all e (f ∷ es) h a = (nat_list_cmp_total.trans k e.0 f.0 h a.0, below_all e es h a.1)

    none_below : (es : Entries V) → AllByRecursion (λ y. order k y ≡ Less) (keys_of es) → lookup (is_at (order k)) es ≡ None
    none_below [] h = refl
    none_below (e ∷ es) h = ap (λ r. cond (is_eq r) (Some e.1) (lookup (is_at (order k)) es)) h.0 ∙ none_below es h.1

    -- a text that only belongs there has no entry
    pub missing_there : (es : Entries V) → Ascends es → (at : ℕ) → BelongsAt k es at → lookup (is_at (order k)) es ≡ None
    missing_there [] s at h = refl
    missing_there (e ∷ es) s zero h = none_below (e ∷ es) (h, below_all e es h (first_below e es s))
    missing_there (e ∷ es) s (suc at) h = ap (λ r. cond (is_eq r) (Some e.1) (lookup (is_at (order k)) es)) h.0 ∙ missing_there es (rest_ascends e es s) at h.1

  module _ (k : List ℕ) (v : V) where
    -- a text added where it belongs is put
    added : (es : Entries V) (at : ℕ) → BelongsAt k es at → insert es at (k, v) ≡ insert_entry order es k v
    added [] zero h = refl
    added [] (suc at) h = absurd h
    added (e ∷ es) zero h = ap (λ r. match_ordering r ((k, v) ∷ e ∷ es) ((e.0, v) ∷ es) (e ∷ insert_entry order es k v)) (sym h)
    added (e ∷ es) (suc at) h = ap (λ xs. e ∷ xs) (added es at h.1) ∙ ap (λ r. match_ordering r ((k, v) ∷ e ∷ es) ((e.0, v) ∷ es) (e ∷ insert_entry order es k v)) (sym h.0)

    all_added : (P : List ℕ → Type 0) (es : Entries V) (at : ℕ) → P k → AllByRecursion P (keys_of es) → AllByRecursion P (keys_of (insert es at (k, v)))
    all_added P es zero p a = (p, a)
    all_added P [] (suc at) p a = (p, tt)
    all_added P (e ∷ es) (suc at) p a = (a.0, all_added P es at p a.1)

    pub added_ascends : (es : Entries V) → Ascends es → (at : ℕ) → BelongsAt k es at → Ascends (insert es at (k, v))
    unfolding IsStrictlySortedBy
    added_ascends [] s zero h = (tt, tt)
    added_ascends [] s (suc at) h = absurd h
    added_ascends (e ∷ es) s zero h = ((h, below_all k e es h (first_below e es s)), s)
    added_ascends (e ∷ es) s (suc at) h = (all_added (λ y. order e.0 y ≡ Less) es at (turned_back k e.0 h.0) s.0, added_ascends es s.1 at h.1)

  pub none_ascend : (es : Entries V) → es ≡ [] → Ascends es
  unfolding IsStrictlySortedBy
  none_ascend [] none = tt
  none_ascend (e ∷ es) none = absurd (omega (arith, ap length none))

  -- the entries as a map behind it
  pub put_between : (es : Entries V) (m : map.FinMap order V) → from_entries es ≡ m → Ascends es → (k : List ℕ) (v : V) (at : ℕ) → BelongsAt k es at → from_entries (insert es at (k, v)) ≡ map.insert m k v
  put_between es m is s k v at free = placed nat_list_cmp_total es (insert es at (k, v)) m is s (added_ascends k v es s at free) k v (added k v es at free)
