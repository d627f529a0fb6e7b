-- How names begin, and in which branch a name stands.
use Rattle.std.proofs.Common.{◌≡◌, ℕ, Bool, true, false, cond, ◌&&◌, ◌||◌, List, [], ◌∷◌, ◌++◌, map, take, drop, length, fold, Some, None, is_some, refl, sym, ap, ◌∙◌, subst, append_assoc}
use Rattle.std.specs.Prelude.{nat_eq}
use Rattle.std.proofs.lemmas.List.{append-nil, take_at, drop_at, take-append-drop}
use Rattle.std.specs.List.{AllByRecursion, list_any, starts_with}
use Rattle.std.specs.Ordering.{nat_cmp}
use Rattle.std.specs.Cmp.{eq_by_cmp_equiv}
use Rattle.std.specs.Cmp.Lexicographic.{slice_cmp, nat_list_cmp_total}
use Rattle.std.specs.Str.{bytes_eq}
use Rattle.std.specs.FinMap.{find}
use Rattle.std.specs.FinMap.Entries.{is_some-find}
use Rattle.fx_base.specs.Same.{same_bytes, same_numbers}
use Rattle.fx_model.specs.Tree.{Branch, common_prefix, shared_prefix, next_byte, branches}
use Rattle.fx_laws.proofs.Gathering.{is, going_on, more_found, branches-find, bytes-refl}
use Rattle.fx_laws.proofs.BranchLemmas.{each_found}

-- ---- what all names begin with

-- the name begins so
abbrev pub Begins : List ℕ → List ℕ → Type 0
Begins p x = (r : List ℕ) × (x ≡ p ++ r)

begins-first : (x y : List ℕ) → Begins (common_prefix x y) x
begins-first [] y = ([], refl)
begins-first (a ∷ x) [] = (a ∷ x, refl)
begins-first (a ∷ x) (b ∷ y) =
    elim (nat_eq a b) as (λ t. Begins (cond t (a ∷ common_prefix x y) []) (a ∷ x)) [
      | true ↦ let h = begins-first x y in (h.0, ap (λ z. a ∷ z) h.1)
      | false ↦ (a ∷ x, refl)
    ]

begins-second : (x y : List ℕ) → Begins (common_prefix x y) y
begins-second [] y = (y, refl)
begins-second (a ∷ x) [] = ([], refl)
begins-second (a ∷ x) (b ∷ y) =
    elim (nat_eq a b) as (λ t. nat_eq a b ≡ t → Begins (cond t (a ∷ common_prefix x y) []) (b ∷ y)) [
      | true ↦ λ e. let h = begins-second x y in (h.0, λ i. sym (same_numbers a b e) i ∷ h.1 i)
      | false ↦ λ e. (b ∷ y, refl)
    ] refl

begins-longer : (p q x : List ℕ) → Begins p q → Begins q x → Begins p x
begins-longer p q x h g = (h.0 ++ g.0, g.1 ∙ ap (λ z. z ++ g.0) h.1 ∙ append_assoc p h.0 g.0)

fold-begins : (p : List ℕ) (xs : List (List ℕ)) → Begins (fold common_prefix p xs) p × AllByRecursion (Begins (fold common_prefix p xs)) xs
fold-begins p [] = (([], sym (append-nil p)), tt)
fold-begins p (x ∷ xs) =
    let h = fold-begins (common_prefix p x) xs in
    (begins-longer _ (common_prefix p x) p h.0 (begins-first p x), (begins-longer _ (common_prefix p x) x h.0 (begins-second p x), h.1))

pub shared-begins : (names : List (List ℕ)) → AllByRecursion (Begins (shared_prefix names)) names
shared-begins [] = tt
shared-begins (x ∷ xs) = fold-begins x xs

either_cases : {P : Type 0} (s t : Bool) → (s || t) ≡ true → (s ≡ true → P) → (t ≡ true → P) → P
either_cases true t e f g = f refl
either_cases false t e f g = g e

-- what holds of all holds of one that is among them
pub one_of : (P : List ℕ → Type 0) (q : List ℕ) (xs : List (List ℕ)) → AllByRecursion P xs → list_any (bytes_eq q) xs ≡ true → P q
one_of P q [] h e = cc
one_of P q (x ∷ xs) h e =
    either_cases {P = P q} (bytes_eq q x) (list_any (bytes_eq q) xs) e (λ s. subst P (sym (same_bytes q x s)) h.0) (λ s. one_of P q xs h.1 s)

-- ---- a match with a `+`

pub starts : (p q : List ℕ) → Begins p q → starts_with nat_eq q p ≡ true
starts p q h = ap (pointwise_of p) (ap (take (length p)) h.1 ∙ take_at p h.0 (length p) refl) ∙ bytes-refl p
  where
    pointwise_of : List ℕ → List ℕ → Bool
    pointwise_of x y = bytes_eq x y

pub started : (p q : List ℕ) → starts_with nat_eq q p ≡ true → Begins p q
started p q e = (drop (length p) q, sym (take-append-drop (length p) q) ∙ ap (λ z. z ++ drop (length p) q) (sym (same_bytes p (take (length p) q) e)))

next-of : (shared r : List ℕ) → next_byte shared (shared ++ r) ≡ take 1 r
next-of shared r = ap (take 1) (drop_at shared r (length shared) refl)

-- a name begins with what all share and its next byte
pub begins-next : (shared q : List ℕ) → Begins shared q → Begins (shared ++ next_byte shared q) q
begins-next shared q h =
    let next : next_byte shared q ≡ take 1 h.0 = ap (next_byte shared) h.1 ∙ next-of shared h.0 in (
      drop 1 h.0,
      h.1 ∙ ap (λ z. shared ++ z) (sym (take-append-drop 1 h.0)) ∙ sym (append_assoc shared (take 1 h.0) (drop 1 h.0))
          ∙ ap (λ z. (shared ++ z) ++ drop 1 h.0) (sym next),
    )

-- and with no other byte there
pub next-begun : (shared q : List ℕ) (n : ℕ) → Begins (shared ++ n ∷ []) q → next_byte shared q ≡ n ∷ []
next-begun shared q n h = ap (next_byte shared) (h.1 ∙ append_assoc shared (n ∷ []) h.0) ∙ next-of shared (n ∷ h.0)

-- ---- in which branch a name stands

picked : (q x : List ℕ) (u : Bool) (fs : List (List ℕ)) → list_any (bytes_eq q) (cond u (x ∷ fs) fs) ≡ cond u (bytes_eq q x || list_any (bytes_eq q) fs) (list_any (bytes_eq q) fs)
picked q x true fs = refl
picked q x false fs = refl

one_more : (u t k l n : Bool) → (t ≡ true → u ≡ k) → l ≡ (k && n) → cond u (t || l) l ≡ (k && (t || n))
one_more true true true l n f e = refl
one_more true true false l n f e = let wrong : true ≡ false = f refl in cc
one_more false true true l n f e = let wrong : false ≡ true = f refl in cc
one_more false true false l n f e = e
one_more true false k l n f e = e
one_more false false k l n f e = e

among-going_on : (shared q c : List ℕ) (xs : List (List ℕ)) → list_any (bytes_eq q) (going_on shared c xs) ≡ (is (next_byte shared q) c && list_any (bytes_eq q) xs)
among-going_on shared q c [] = sym (none (is (next_byte shared q) c))
  where
    none : (t : Bool) → (t && false) ≡ false
    none true = refl
    none false = refl
among-going_on shared q c (x ∷ xs) =
    picked q x (is c (next_byte shared x)) (going_on shared c xs)
    ∙ one_more (is c (next_byte shared x)) (bytes_eq q x) (is (next_byte shared q) c) (list_any (bytes_eq q) (going_on shared c xs)) (list_any (bytes_eq q) xs)
    (λ e. ap (λ z. is c (next_byte shared z)) (sym (same_bytes q x e)) ∙ (eq_by_cmp_equiv nat_list_cmp_total).symm c (next_byte shared q))
    (among-going_on shared q c xs)

some_more : (ys : List (List ℕ)) (names : List (List ℕ)) → more_found None ys ≡ Some names → names ≡ ys
some_more [] names e = cc
some_more (y ∷ ys) names e = cc

module _ (shared q : List ℕ) (names : List (List ℕ)) where
  -- each branch has the name where its byte follows and the name is there
  pub in_branches : AllByRecursion (λ b. list_any (bytes_eq q) b.1 ≡ (is (next_byte shared q) b.0 && list_any (bytes_eq q) names)) (branches shared names)
  in_branches = over (branches shared names) (each_found shared names)
    where
      over : (bs : List Branch) → AllByRecursion (λ b. find (slice_cmp nat_cmp) b.0 (branches shared names) ≡ Some b.1) bs → AllByRecursion (λ b. list_any (bytes_eq q) b.1 ≡ (is (next_byte shared q) b.0 && list_any (bytes_eq q) names)) bs
      over [] h = tt
      over (b ∷ bs) h =
          (ap (list_any (bytes_eq q)) (some_more (going_on shared b.0 names) b.1 (sym (branches-find shared names b.0) ∙ h.0)) ∙ among-going_on shared q b.0 names, over bs h.1)

  some_found : (ys : List (List ℕ)) → list_any (bytes_eq q) ys ≡ true → is_some (more_found None ys) ≡ true
  some_found [] e = cc
  some_found (y ∷ ys) e = refl

  itself : is (next_byte shared q) (next_byte shared q) ≡ true
  itself = (eq_by_cmp_equiv nat_list_cmp_total).refl (next_byte shared q)

  -- a name that is there has a branch
  pub has_branch : list_any (bytes_eq q) names ≡ true → list_any (is (next_byte shared q)) (map (λ b. b.0) (branches shared names)) ≡ true
  has_branch e =
      sym (is_some-find (slice_cmp nat_cmp) (next_byte shared q) (branches shared names))
      ∙ ap is_some (branches-find shared names (next_byte shared q))
      ∙ some_found (going_on shared (next_byte shared q) names)
      (among-going_on shared q (next_byte shared q) names ∙ ap (λ t. t && list_any (bytes_eq q) names) itself ∙ e)
