-- How many items a set has that another lacks.
use Rattle.std.proofs.Common.{◌≡◌, ◌≤◌, ℕ, ◌+◌, Bool, true, false, cond, not, ◌&&◌, List, [], ◌∷◌, length, map, Option, Some, None, is_some, T, refl, sym, ap, ◌∙◌, subst, arith}
use Rattle.std.specs.List.{filter, count_by}
use Rattle.std.specs.declared.cmp.Ordering.{Ordering}
use Rattle.std.specs.Ordering.{is_lt, is_eq}
use Rattle.std.specs.Cmp.{IsTotalOrder}
use Rattle.std.specs.FinMap.{IsAntisymmetric, entries, entries_sorted, get, get-entries, len-entries, from_sorted, entries-from_sorted, get-from_sorted, retain_keys, get-retain_keys}
use Rattle.std.specs.FinMap.Entries as list
use Rattle.std.specs.FinMap.Entries.{below_all, is_sorted}
use Rattle.std.proofs.lemmas.List.{length-map}
use Rattle.std.proofs.lemmas.List.Sums.{count_by-le-length}
use Rattle.std.proofs.lemmas.List.Filters.{length-filter_both}
use Rattle.fx_base.specs.Set as set
use Rattle.fx_base.specs.Set.{Set}
use Rattle.fx_base.specs.Passing.{passes}
use Rattle.fx_base.specs.Same.{both_pass}
use Rattle.fx_base.proofs.Cases.{both_true, opposite}
use Rattle.fx_base.proofs.Filtered.{items-filtered, len-filtered}

none_of : (b : Bool) → (b ≡ true → false ≡ true) → b ≡ false
none_of true h = sym (h refl)
none_of false h = refl

keys-filter : {K : Type 0} (p : K → Bool) (es : List (K × Unit {0})) → filter p (map (λ e. e.0) es) ≡ map (λ e. e.0) (filter (λ e. p e.0) es)
keys-filter p [] = refl
keys-filter p (e ∷ es) =
    elim (p e.0) as (λ b. cond b (e.0 ∷ filter p (map (λ e. e.0) es)) (filter p (map (λ e. e.0) es)) ≡ map (λ e. e.0) (cond b (e ∷ filter (λ e. p e.0) es) (filter (λ e. p e.0) es))) [
      | true ↦ ap (λ ks. e.0 ∷ ks) (keys-filter p es)
      | false ↦ keys-filter p es
    ]

module _ {K : Type 0} {R : K → K → Ordering} (o : IsTotalOrder R) (exact : IsAntisymmetric R) where
  member : (p : K → Bool) (k : K) (o : Option (Unit {0})) → (p k && is_some o) ≡ passes (λ e. p e.0) k o
  member p k None = elim (p k) as (λ b. (b && false) ≡ false) [ true ↦ refl | false ↦ refl ]
  member p k (Some x) = elim (p k) as (λ b. (b && true) ≡ b) [ true ↦ refl | false ↦ refl ]

  -- a part is no larger
  pub len-part : (s t : Set R) → ((k : K) → set.contains s k ≡ true → set.contains t k ≡ true) → set.len s ≤ set.len t
  len-part s t part =
      let is : (k : K) → set.contains s k ≡ passes (λ e. set.contains s e.0) k (get t k) = λ k. by_cases k (get t k) refl in
      subst (λ n. n ≤ set.len t) (sym (len-filtered o exact (λ e. set.contains s e.0) s t is))
      (subst (λ n. count_by (λ e. set.contains s e.0) (entries t) ≤ n) (sym (len-entries t)) (count_by-le-length (λ e. set.contains s e.0) (entries t)))
    where
      by_cases : (k : K) (f : Option (Unit {0})) → get t k ≡ f → set.contains s k ≡ passes (λ e. set.contains s e.0) k f
      by_cases k None h = none_of (set.contains s k) (λ there. sym (ap is_some h) ∙ part k there)
      by_cases k (Some x) h = refl

  -- the items that pass
  abbrev kept : Set R → (K → Bool) → Set R
  kept s p = retain_keys s p

  contains-kept : (s : Set R) (p : K → Bool) (k : K) → set.contains (kept s p) k ≡ (p k && set.contains s k)
  contains-kept s p k =
      ap is_some (get-retain_keys s p k (λ x e. ap p (sym (exact k x e))))
      ∙ elim (p k) as (λ b. is_some (cond b (get s k) None) ≡ (b && is_some (get s k))) [ true ↦ refl | false ↦ refl ]

  items-kept : (s : Set R) (p : K → Bool) → set.items (kept s p) ≡ filter p (set.items s)
  items-kept s p =
      items-filtered o exact (λ e. p e.0) (kept s p) s (λ k. contains-kept s p k ∙ member p k (get s k))
      ∙ sym (keys-filter p (entries s))

  len-kept : (s : Set R) (p : K → Bool) → set.len (kept s p) ≡ length (filter p (set.items s))
  len-kept s p = len-entries (kept s p) ∙ sym (length-map (entries (kept s p)) (λ e. e.0)) ∙ ap length (items-kept s p)

  abbrev minus : Set R → Set R → Set R
  minus s t = kept s (λ k. not (set.contains t k))

  sums : (a b n m x : ℕ) → a + b ≡ x → a ≤ n → b ≤ m → x ≤ n + m
  sums a b n m x e h k = omega (arith, e, h, k)

  -- what is gained in two steps is gained in the one or in the other
  pub gained-sum : (a b c : Set R) → length (set.items_minus c a) ≤ length (set.items_minus b a) + length (set.items_minus c b)
  gained-sum a b c =
      let s = minus c a in
      let there = kept s (set.contains b) in
      let missing = kept s (λ k. not (set.contains b k)) in
      let left : set.len there ≤ set.len (minus b a) = len-part there (minus b a) (λ k h.
      let p = both_pass _ _ (sym (contains-kept s (set.contains b) k) ∙ h) in
      let q = both_pass _ _ (sym (contains-kept c (λ k. not (set.contains a k)) k) ∙ p.1) in
      contains-kept b (λ k. not (set.contains a k)) k ∙ both_true _ _ q.0 p.0) in
      let right : set.len missing ≤ set.len (minus c b) = len-part missing (minus c b) (λ k h.
      let p = both_pass _ _ (sym (contains-kept s (λ k. not (set.contains b k)) k) ∙ h) in
      let q = both_pass _ _ (sym (contains-kept c (λ k. not (set.contains a k)) k) ∙ p.1) in
      contains-kept c (λ k. not (set.contains b k)) k ∙ both_true _ _ p.0 q.1) in
      let whole : length (filter (set.contains b) (set.items s)) + length (filter (λ k. not (set.contains b k)) (set.items s)) ≡ length (set.items s) = length-filter_both (set.contains b) (λ k. not (set.contains b k)) (λ k. refl) (set.items s) in
      let one : length (filter (set.contains b) (set.items s)) ≤ length (set.items_minus b a) = subst (λ n. n ≤ length (set.items_minus b a)) (len-kept s (set.contains b)) (subst (λ n. set.len there ≤ n) (len-kept b (λ k. not (set.contains a k))) left) in
      let two : length (filter (λ k. not (set.contains b k)) (set.items s)) ≤ length (set.items_minus c b) = subst (λ n. n ≤ length (set.items_minus c b)) (len-kept s (λ k. not (set.contains b k))) (subst (λ n. set.len missing ≤ n) (len-kept c (λ k. not (set.contains b k))) right) in
      sums _ _ _ _ _ (whole ∙ ap length (items-kept c (λ k. not (set.contains a k)))) one two

-- ---- as many as their images
abbrev imaged : {K L : Type 0} → (L → K) → List (L × Unit {0}) → List (K × Unit {0})
imaged f es = map (λ e. (f e.0, tt)) es

module _ {K L : Type 0} (R : K → K → Ordering) (Q : L → L → Ordering) (f : L → K) (ordered : (x y : L) → R (f x) (f y) ≡ Q x y) where
  below-image : (x : L) (es : List (L × Unit {0})) → below_all R (f x) (imaged f es) ≡ below_all Q x es
  below-image x [] = refl
  below-image x (e ∷ es) = λ i. is_lt (ordered x e.0 i) && below-image x es i

  sorted-image : (es : List (L × Unit {0})) → is_sorted R (imaged f es) ≡ is_sorted Q es
  sorted-image [] = refl
  sorted-image (e ∷ es) = λ i. below-image e.0 es i && sorted-image es i

  find-image : (x : L) (es : List (L × Unit {0})) → is_some (list.find R (f x) (imaged f es)) ≡ is_some (list.find Q x es)
  find-image x [] = refl
  find-image x (e ∷ es) =
      ap (λ r. is_some (cond (is_eq r) (Some tt) (list.find R (f x) (imaged f es)))) (ordered x e.0)
      ∙ elim (is_eq (Q x e.0)) as (λ b. is_some (cond b (Some tt) (list.find R (f x) (imaged f es))) ≡ is_some (cond b (Some e.1) (list.find Q x es))) [ true ↦ refl | false ↦ find-image x es ]

  module _ (o : IsTotalOrder R) (exact : IsAntisymmetric R) where
    -- items that are all images of another set's items are no more than these
    pub len-images : (s : Set R) (u : Set Q) → ((k : K) → set.contains s k ≡ true → (x : L) × ((k ≡ f x) × (set.contains u x ≡ true))) → set.len s ≤ set.len u
    len-images s u from =
        let sorted : T (is_sorted R (imaged f (entries u))) = subst T (sym (sorted-image (entries u))) (entries_sorted u) in
        let v : Set R = from_sorted (imaged f (entries u)) in
        let size : set.len v ≡ set.len u = len-entries v ∙ ap length (entries-from_sorted R (imaged f (entries u)) sorted) ∙ length-map (entries u) (λ e. (f e.0, tt)) ∙ sym (len-entries u) in
        subst (λ n. set.len s ≤ n) size (len-part o exact s v (λ k h.
        let x = from k h in
        ap (set.contains v) x.1.0 ∙ ap is_some (get-from_sorted R (imaged f (entries u)) (f x.0) sorted) ∙ find-image x.0 (entries u)
        ∙ sym (ap is_some (get-entries u x.0)) ∙ x.1.1))

    -- and so where all that is gained is such
    pub gained-images : (old new : Set R) (u : Set Q) → ((k : K) → set.contains new k ≡ true → set.contains old k ≡ false → (x : L) × ((k ≡ f x) × (set.contains u x ≡ true))) → length (set.items_minus new old) ≤ set.len u
    gained-images old new u from =
        subst (λ n. n ≤ set.len u) (len-kept o exact new (λ k. not (set.contains old k)))
        (len-images (minus o exact new old) u (λ k h.
        let p = both_pass _ _ (sym (contains-kept o exact new (λ k. not (set.contains old k)) k) ∙ h) in
        from k p.1 (opposite (set.contains old k) p.0)))
