-- Tests of lists, and what is read of labels that are put over others or under a prefix.
use Rattle.std.proofs.Common.{◌≡◌, ℕ, Bool, true, false, ◌&&◌, ◌||◌, cond, List, [], ◌∷◌, ◌++◌, map, take, length, Option, Some, None, refl, sym, ap, ◌∙◌, eq-eqb}
use Rattle.std.specs.Prelude.{nat_eq}
use Rattle.std.specs.Option.{option_or}
use Rattle.std.specs.List.{list_any, list_all, flat_map, starts_with, AllByRecursion}
use Rattle.std.specs.Ordering.{nat_cmp, is_eq, ordering_then}
use Rattle.std.specs.Cmp.{nat_cmp_total, tied_itself}
use Rattle.std.specs.Cmp.Lexicographic.{slice_cmp, pointwise, nat_list_cmp_total}
use Rattle.std.specs.FinMap as maps
use Rattle.std.proofs.lemmas.List.Folds.{list_any-append}
use Rattle.fx_selector.specs.Prefixed.{prefixed_entry, prefixed}
use Rattle.fx_selector.specs.Truth.{LabelMap}
use Rattle.fx_model.specs.Labels.{over}
use Rattle.fx_laws.proofs.EntryLookups.{is, last, is_same, get-extended, get-collected, last-entries}

-- ---- tests

pub unmoved_or : (a : Bool) → (a || false) ≡ a
unmoved_or true = refl
unmoved_or false = refl

pub unmoved_and : (a : Bool) → (a && true) ≡ a
unmoved_and true = refl
unmoved_and false = refl

pub nothing_and : (a : Bool) → (a && false) ≡ false
nothing_and true = refl
nothing_and false = refl

pub any-map : {A B : Type 0} (p : B → Bool) (f : A → B) (xs : List A) → list_any p (map f xs) ≡ list_any (λ x. p (f x)) xs
any-map p f [] = refl
any-map p f (x ∷ xs) = ap (λ b. p (f x) || b) (any-map p f xs)

pub any-flat_map : {A B : Type 0} (p : B → Bool) (f : A → List B) (xs : List A) → list_any p (flat_map f xs) ≡ list_any (λ x. list_any p (f x)) xs
any-flat_map p f [] = refl
any-flat_map p f (x ∷ xs) = list_any-append p (f x) (flat_map f xs) ∙ ap (λ b. list_any p (f x) || b) (any-flat_map p f xs)

-- tests that agree on each element
pub any-same : {A : Type 0} (p q : A → Bool) (xs : List A) → AllByRecursion (λ x. p x ≡ q x) xs → list_any p xs ≡ list_any q xs
any-same p q [] h = refl
any-same p q (x ∷ xs) h = (λ i. h.0 i || any-same p q xs h.1 i)

pub all-same : {A : Type 0} (p q : A → Bool) (xs : List A) → AllByRecursion (λ x. p x ≡ q x) xs → list_all p xs ≡ list_all q xs
all-same p q [] h = refl
all-same p q (x ∷ xs) h = (λ i. h.0 i && all-same p q xs h.1 i)

pub all-map : {A B : Type 0} (p : B → Bool) (f : A → B) (xs : List A) → list_all p (map f xs) ≡ list_all (λ x. p (f x)) xs
all-map p f [] = refl
all-map p f (x ∷ xs) = ap (λ b. p (f x) && b) (all-map p f xs)

-- what holds of each element by another fact of it
pub each : {A : Type 0} (P Q : A → Type 0) → ((x : A) → P x → Q x) → (xs : List A) → AllByRecursion P xs → AllByRecursion Q xs
each P Q f [] h = tt
each P Q f (x ∷ xs) h = (f x h.0, each P Q f xs h.1)

pub every : {A : Type 0} (Q : A → Type 0) → ((x : A) → Q x) → (xs : List A) → AllByRecursion Q xs
every Q f [] = tt
every Q f (x ∷ xs) = (f x, every Q f xs)

pub both_of : {A : Type 0} (P Q : A → Type 0) (xs : List A) → AllByRecursion P xs → AllByRecursion Q xs → AllByRecursion (λ x. P x × Q x) xs
both_of P Q [] h g = tt
both_of P Q (x ∷ xs) h g = ((h.0, g.0), both_of P Q xs h.1 g.1)

passes_first : (a b : Bool) → (a && b) ≡ true → a ≡ true
passes_first true b e = refl
passes_first false b e = e

passes_second : (a b : Bool) → (a && b) ≡ true → b ≡ true
passes_second true b e = e
passes_second false b e = cc

pub tested : {A : Type 0} (p : A → Bool) (xs : List A) → list_all p xs ≡ true → AllByRecursion (λ x. p x ≡ true) xs
tested p [] h = tt
tested p (x ∷ xs) h = (passes_first (p x) (list_all p xs) h, tested p xs (passes_second (p x) (list_all p xs) h))

pub all-first : {A : Type 0} (P : A → Type 0) (xs ys : List A) → AllByRecursion P (xs ++ ys) → AllByRecursion P xs
all-first P [] ys h = tt
all-first P (x ∷ xs) ys h = (h.0, all-first P xs ys h.1)

pub all-second : {A : Type 0} (P : A → Type 0) (xs ys : List A) → AllByRecursion P (xs ++ ys) → AllByRecursion P ys
all-second P [] ys h = h
all-second P (x ∷ xs) ys h = all-second P xs ys h.1

pub of_map : {A B : Type 0} (P : B → Type 0) (f : A → B) (xs : List A) → AllByRecursion P (map f xs) → AllByRecursion (λ x. P (f x)) xs
of_map P f [] h = tt
of_map P f (x ∷ xs) h = (h.0, of_map P f xs h.1)

pub to_map : {A B : Type 0} (P : B → Type 0) (f : A → B) (xs : List A) → AllByRecursion (λ x. P (f x)) xs → AllByRecursion P (map f xs)
to_map P f [] h = tt
to_map P f (x ∷ xs) h = (h.0, to_map P f xs h.1)

pub to_both : {A : Type 0} (P : A → Type 0) (xs ys : List A) → AllByRecursion P xs → AllByRecursion P ys → AllByRecursion P (xs ++ ys)
to_both P [] ys h g = g
to_both P (x ∷ xs) ys h g = (h.0, to_both P xs ys h.1 g)

-- ---- labels over others

pub or_none : {A : Type 0} (o : Option A) → option_or o None ≡ o
or_none None = refl
or_none (Some x) = refl

regrouped : {A : Type 0} (p : Option A) (b : Bool) (x : A) (o : Option A) → option_or p (cond b (Some x) o) ≡ option_or (option_or p (cond b (Some x) None)) o
regrouped (Some y) b x o = refl
regrouped None true x o = refl
regrouped None false x o = refl

module _ {X : Type 0} where
  last-or : (es : List (List ℕ × X)) (q : List ℕ) (o : Option X) → last es q o ≡ option_or (last es q None) o
  last-or [] q o = refl
  last-or (e ∷ es) q o =
      last-or es q (cond (is q e.0) (Some e.1) o)
      ∙ regrouped (last es q None) (is q e.0) e.1 o
      ∙ ap (λ (p : Option X). option_or p o) (sym (last-or es q (cond (is q e.0) (Some e.1) None)))

pub get-over : (m n : LabelMap) (q : List ℕ) → maps.get (over m n) q ≡ option_or (maps.get m q) (maps.get n q)
get-over m n q =
    get-extended nat_list_cmp_total n (maps.entries m) q
    ∙ last-or (maps.entries m) q (maps.get n q)
    ∙ ap (λ (p : Option (List ℕ)). option_or p (maps.get n q)) (last-entries nat_list_cmp_total m q)

-- ---- labels under a prefix

same_behind : (p q k : List ℕ) → is (p ++ q) (p ++ k) ≡ is q k
same_behind [] q k = refl
same_behind (c ∷ p) q k =
    ap (λ r. is_eq (ordering_then r (slice_cmp nat_cmp (p ++ q) (p ++ k)))) (tied_itself nat_cmp_total c) ∙ same_behind p q k

pub starts_so : (p k : List ℕ) → starts_with nat_eq (p ++ k) p ≡ true
starts_so [] k = refl
starts_so (c ∷ p) k = ap (λ b. b && pointwise nat_eq p (take (length p) (p ++ k))) (eq-eqb c c refl) ∙ starts_so p k

module _ (p : List ℕ) where
  last-behind : (es : List (List ℕ × List ℕ)) (k : List ℕ) (o : Option (List ℕ)) → last (map (prefixed_entry p) es) (p ++ k) o ≡ last es k o
  last-behind [] k o = refl
  last-behind (e ∷ es) k o =
      ap (λ b. last (map (prefixed_entry p) es) (p ++ k) (cond b (Some e.1) o)) (same_behind p k e.0) ∙ last-behind es k (cond (is k e.0) (Some e.1) o)

  pub get-behind : (m : LabelMap) (k : List ℕ) → maps.get (prefixed p m) (p ++ k) ≡ maps.get m k
  get-behind m k =
      get-collected nat_list_cmp_total (map (prefixed_entry p) (maps.entries m)) (p ++ k) ∙ last-behind (maps.entries m) k None ∙ last-entries nat_list_cmp_total m k

  -- a key that doesn't begin so is none of these
  is_other : (q k : List ℕ) → starts_with nat_eq q p ≡ false → is q (p ++ k) ≡ false
  is_other q k h = by (is q (p ++ k)) refl
    where
      by : (b : Bool) → is q (p ++ k) ≡ b → b ≡ false
      by false e = refl
      by true e = let same : q ≡ p ++ k = is_same q (p ++ k) e in sym (starts_so p k) ∙ ap (λ (s : List ℕ). starts_with nat_eq s p) (sym same) ∙ h

  last-none : (es : List (List ℕ × List ℕ)) (q : List ℕ) → starts_with nat_eq q p ≡ false → last (map (prefixed_entry p) es) q None ≡ None
  last-none [] q h = refl
  last-none (e ∷ es) q h =
      ap (λ b. last (map (prefixed_entry p) es) q (cond b (Some e.1) None)) (is_other q e.0 h) ∙ last-none es q h

  pub get-none : (m : LabelMap) (q : List ℕ) → starts_with nat_eq q p ≡ false → maps.get (prefixed p m) q ≡ None
  get-none m q h = get-collected nat_list_cmp_total (map (prefixed_entry p) (maps.entries m)) q ∙ last-none (maps.entries m) q h
