-- What names share begins each of them, and ends where they part.
use Rattle.std.proofs.Common.{◌≡◌, ◌≤◌, ℕ, true, false, List, [], ◌∷◌, ◌++◌, length, fold, T, refl, sym, ap, ◌∙◌, subst, append_assoc, append-nil, eq-eqb, arith}
use Rattle.std.specs.Prelude.{if◌then◌else◌, nat_eq}
use Rattle.std.specs.List.{AllByRecursion}
use Rattle.std.specs.declared.cmp.Ordering.TheVariants.{Less, Equal, Greater}
use Rattle.std.specs.Ordering.{nat_cmp, is_lt}
use Rattle.std.specs.Cmp.{tied_itself}
use Rattle.std.specs.Cmp.Lexicographic.{slice_cmp, nat_list_cmp_total}
use Rattle.std.specs.FinMap.{find, put, is_sorted}
use Rattle.std.specs.FinMap.Entries.{by_order}
use Rattle.fx_base.specs.Same.{same_numbers}
use Rattle.fx_base.proofs.Cases.{first}
use Rattle.fx_base.proofs.Found.{each}
use Rattle.fx_base.proofs.KeyCases.{bytes_exact}
use Rattle.fx_model.specs.Tree.{Branch, common_prefix, shared_prefix, next_byte, names_found, branches}
use Rattle.fx_laws.proofs.Gathering.{branches-sorted}

-- a text begins another
abbrev pub Starts : List ℕ → List ℕ → Type 0
Starts p y = (r : List ℕ) × (y ≡ p ++ r)

starts_on : (p q y : List ℕ) → Starts p q → Starts q y → Starts p y
starts_on p q y h g = (h.0 ++ g.0, g.1 ∙ ap (λ zs. zs ++ g.0) h.1 ∙ append_assoc p h.0 g.0)

-- ---- of two

common_first : (xs ys : List ℕ) → Starts (common_prefix xs ys) xs
common_first [] ys = ([], refl)
common_first (x ∷ xs) [] = (x ∷ xs, refl)
common_first (x ∷ xs) (y ∷ ys) =
    elim (nat_eq x y) as (λ t. Starts (if t then x ∷ common_prefix xs ys else []) (x ∷ xs)) [
      | true ↦ let h = common_first xs ys in (h.0, ap (λ zs. x ∷ zs) h.1)
      | false ↦ (x ∷ xs, refl)
    ]

pub common_second : (xs ys : List ℕ) → Starts (common_prefix xs ys) ys
common_second [] ys = (ys, refl)
common_second (x ∷ xs) [] = ([], refl)
common_second (x ∷ xs) (y ∷ ys) =
    elim (nat_eq x y) as (λ t. nat_eq x y ≡ t → Starts (if t then x ∷ common_prefix xs ys else []) (y ∷ ys)) [
      | true ↦ λ e. let h = common_second xs ys in (h.0, λ i. sym (same_numbers x y e) i ∷ h.1 i)
      | false ↦ λ e. (y ∷ ys, refl)
    ] refl

-- what begins both begins what they share
common_behind : (p r s : List ℕ) → common_prefix (p ++ r) (p ++ s) ≡ p ++ common_prefix r s
common_behind [] r s = refl
common_behind (x ∷ p) r s =
    ap (λ t. if t then x ∷ common_prefix (p ++ r) (p ++ s) else []) (eq-eqb x x refl)
    ∙ ap (λ zs. x ∷ zs) (common_behind p r s)

common_starts : (p xs ys : List ℕ) → Starts p xs → Starts p ys → Starts p (common_prefix xs ys)
common_starts p xs ys h g = (common_prefix h.0 g.0, (λ i. common_prefix (h.1 i) (g.1 i)) ∙ common_behind p h.0 g.0)

-- ---- of many

fold_first : (x : List ℕ) (ys : List (List ℕ)) → Starts (fold common_prefix x ys) x
fold_first x [] = ([], sym (append-nil x))
fold_first x (y ∷ ys) =
    starts_on (fold common_prefix (common_prefix x y) ys) (common_prefix x y) x
    (fold_first (common_prefix x y) ys) (common_first x y)

fold_all : (x : List ℕ) (ys : List (List ℕ)) → AllByRecursion (Starts (fold common_prefix x ys)) ys
fold_all x [] = tt
fold_all x (y ∷ ys) = (
  starts_on (fold common_prefix (common_prefix x y) ys) (common_prefix x y) y
      (fold_first (common_prefix x y) ys) (common_second x y),
  fold_all (common_prefix x y) ys,
)

pub all_start : (names : List (List ℕ)) → AllByRecursion (Starts (shared_prefix names)) names
all_start [] = tt
all_start (name ∷ names) = (fold_first name names, fold_all name names)

fold_starts : (p x : List ℕ) (ys : List (List ℕ)) → Starts p x → AllByRecursion (Starts p) ys → Starts p (fold common_prefix x ys)
fold_starts p x [] h g = h
fold_starts p x (y ∷ ys) h g = fold_starts p (common_prefix x y) ys (common_starts p x y h g.0) g.1

-- ---- the branches of names that share one byte more

next_behind : (p : List ℕ) (c : ℕ) (t r : List ℕ) → next_byte p ((p ++ c ∷ t) ++ r) ≡ c ∷ []
next_behind [] c t r = refl
next_behind (x ∷ p) c t r = next_behind p c t r

keys_put : (P : Branch → Type 0) (k : List ℕ) (v : List (List ℕ)) (bs : List Branch) → P (k, v) → AllByRecursion P bs → AllByRecursion P (put (slice_cmp nat_cmp) k v bs)
keys_put P k v [] h all = (h, tt)
keys_put P k v (b ∷ bs) h all =
    elim (slice_cmp nat_cmp k b.0) as (λ r. slice_cmp nat_cmp k b.0 ≡ r → AllByRecursion P (by_order r ((k, v) ∷ b ∷ bs) ((b.0, v) ∷ bs) (b ∷ put (slice_cmp nat_cmp) k v bs))) [
      | Less ↦ λ p. (h, all)
      | Equal ↦ λ p. (subst (λ (j : List ℕ). P (j, v)) (bytes_exact k b.0 p) h, all.1)
      | Greater ↦ λ p. (all.0, keys_put P k v bs h all.1)
    ] refl

one_key : (p k : List ℕ) (xs : List (List ℕ)) → AllByRecursion (λ y. next_byte p y ≡ k) xs → AllByRecursion (λ b. b.0 ≡ k) (branches p xs)
one_key p k [] h = tt
one_key p k (x ∷ xs) h =
    keys_put (λ b. b.0 ≡ k) (next_byte p x) (x ∷ names_found (find (slice_cmp nat_cmp) (next_byte p x) (branches p xs))) (branches p xs)
    h.0 (one_key p k xs h.1)

not_two : (k : List ℕ) (bs : List Branch) → T (is_sorted (slice_cmp nat_cmp) bs) → AllByRecursion (λ b. b.0 ≡ k) bs → 2 ≤ length bs → ⊥
not_two k [] s h n = omega arith
not_two k (b ∷ []) s h n = omega arith
not_two k (b ∷ c ∷ bs) s h n =
    let rises : T (is_lt (slice_cmp nat_cmp b.0 c.0)) = first _ _ (first _ _ s) in
    absurd (subst (λ r. T (is_lt r)) ((λ i. slice_cmp nat_cmp (h.0 i) (h.1.0 i)) ∙ tied_itself nat_list_cmp_total k) rises)

-- ---- what begins all names, and has two branches or more behind it, is what they share

ends_there : (p : List ℕ) (ns : List (List ℕ)) → 2 ≤ length (branches p ns) → (r : List ℕ) → shared_prefix ns ≡ p ++ r → shared_prefix ns ≡ p
ends_there p ns two [] e = e ∙ append-nil p
ends_there p ns two (c ∷ t) e =
    let next : AllByRecursion (λ y. next_byte p y ≡ c ∷ []) ns =
    each (Starts (shared_prefix ns)) (λ y. next_byte p y ≡ c ∷ []) (λ y h.
    ap (next_byte p) (h.1 ∙ ap (λ z. z ++ h.0) e) ∙ next_behind p c t h.0) ns (all_start ns) in
    absurd (not_two (c ∷ []) (branches p ns) (branches-sorted p ns) (one_key p (c ∷ []) ns next) two)

pub shared_with : (p : List ℕ) (ns : List (List ℕ)) → AllByRecursion (Starts p) ns → 2 ≤ length (branches p ns) → shared_prefix ns ≡ p
shared_with p [] h two = absurd (omega arith)
shared_with p (n ∷ ns) h two =
    let more : Starts p (shared_prefix (n ∷ ns)) = fold_starts p n ns h.0 h.1 in
    ends_there p (n ∷ ns) two more.0 more.1
