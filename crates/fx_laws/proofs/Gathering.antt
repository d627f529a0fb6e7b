-- Names that are put into their branches one after another.
use Rattle.std.proofs.Common.{◌≡◌, ℕ, Bool, true, cond, ◌&&◌, List, [], ◌∷◌, ◌++◌, Option, Some, None, filter, refl, sym, ap, ◌∙◌, append_assoc, eq-eqb}
use Rattle.std.specs.Prelude.{T, nat_eq}
use Rattle.std.specs.Ordering.{nat_cmp, is_eq}
use Rattle.std.specs.declared.cmp.Ordering.TheVariants.{Less, Equal, Greater}
use Rattle.std.proofs.lemmas.List.{append-nil}
use Rattle.std.specs.Cmp.Lexicographic.{slice_cmp, nat_list_cmp_total, pointwise}
use Rattle.std.specs.FinMap as maps
use Rattle.std.specs.FinMap.{find, is_sorted}
use Rattle.std.specs.FinMap.Entries.{find-put, is_sorted-put, same_entries}
use Rattle.fx_base.proofs.AtKey.{get_insert, get_empty}
use Rattle.fx_base.proofs.KeyCases.{bytes_exact}
use Rattle.fx_model.specs.Tree.{next_byte, names_found, branches}
pub use Rattle.fx_laws.proofs.EntryLookups.{is}

abbrev pub BranchMap : Type 0
BranchMap = maps.FinMap (slice_cmp nat_cmp) (List (List ℕ))

abbrev pub gathered : List ℕ → BranchMap → List (List ℕ) → BranchMap
gathered shared m [] = m
gathered shared m (x ∷ xs) = gathered shared (maps.insert m (next_byte shared x) (names_found (maps.get m (next_byte shared x)) ++ x ∷ [])) xs

-- the names in which this byte follows
abbrev pub going_on : List ℕ → List ℕ → List (List ℕ) → List (List ℕ)
going_on shared byte names = filter (λ x. is byte (next_byte shared x)) names

-- these names behind those that were found
abbrev pub more_found : Option (List (List ℕ)) → List (List ℕ) → Option (List (List ℕ))
more_found None [] = None
more_found None (x ∷ xs) = Some (x ∷ xs)
more_found (Some ys) xs = Some (ys ++ xs)

none_more : (o : Option (List (List ℕ))) → more_found o [] ≡ o
none_more None = refl
none_more (Some ys) = ap Some (append-nil ys)

one_and_more : (o : Option (List (List ℕ))) (x : List ℕ) (xs : List (List ℕ)) → more_found (Some (names_found o ++ x ∷ [])) xs ≡ more_found o (x ∷ xs)
one_and_more None x xs = refl
one_and_more (Some ys) x xs = ap Some (append_assoc ys (x ∷ []) xs)

found_none_more : (ys : List (List ℕ)) → names_found (more_found None ys) ≡ ys
found_none_more [] = refl
found_none_more (y ∷ ys) = refl

module _ (shared : List ℕ) where
  -- at each byte stand the names in which it follows
  gathered-at : (m : BranchMap) (xs : List (List ℕ)) (q : List ℕ) → maps.get (gathered shared m xs) q ≡ more_found (maps.get m q) (going_on shared q xs)
  gathered-at m [] q = sym (none_more (maps.get m q))
  gathered-at m (x ∷ xs) q =
      let k = next_byte shared x in
      let ys = going_on shared q xs in
      let put_on : Option (List (List ℕ)) → Option (List (List ℕ)) = λ o. Some (names_found o ++ x ∷ []) in
      gathered-at (maps.insert m k (names_found (maps.get m k) ++ x ∷ [])) xs q
      ∙ ap (λ o. more_found o ys) (get_insert m k (names_found (maps.get m k) ++ x ∷ []) q)
      ∙ elim (slice_cmp nat_cmp q k) as (λ r. slice_cmp nat_cmp q k ≡ r → more_found (cond (is_eq r) (put_on (maps.get m k)) (maps.get m q)) ys ≡ more_found (maps.get m q) (cond (is_eq r) (x ∷ ys) ys)) [
        | Less ↦ λ p. refl
        | Equal ↦ λ p. ap (λ j. more_found (put_on (maps.get m j)) ys) (sym (bytes_exact q k p)) ∙ one_and_more (maps.get m q) x ys
        | Greater ↦ λ p. refl
      ] refl

  pub branches-find : (xs : List (List ℕ)) (q : List ℕ) → find (slice_cmp nat_cmp) q (branches shared xs) ≡ more_found None (going_on shared q xs)
  branches-find [] q = refl
  branches-find (x ∷ xs) q =
      let k = next_byte shared x in
      let ys = going_on shared q xs in
      let bs = branches shared xs in
      let put_on : Option (List (List ℕ)) → Option (List (List ℕ)) = λ o. Some (x ∷ names_found o) in
      find-put (slice_cmp nat_cmp) nat_list_cmp_total q k (x ∷ names_found (find (slice_cmp nat_cmp) k bs)) bs
      ∙ elim (slice_cmp nat_cmp q k) as (λ r. slice_cmp nat_cmp q k ≡ r → cond (is_eq r) (put_on (find (slice_cmp nat_cmp) k bs)) (find (slice_cmp nat_cmp) q bs) ≡ more_found None (cond (is_eq r) (x ∷ ys) ys)) [
        | Less ↦ λ p. branches-find xs q
        | Equal ↦ λ p. ap (λ j. put_on (find (slice_cmp nat_cmp) j bs)) (sym (bytes_exact q k p)) ∙ ap put_on (branches-find xs q) ∙ ap (λ zs. Some (x ∷ zs)) (found_none_more ys)
        | Greater ↦ λ p. branches-find xs q
      ] refl

  pub branches-sorted : (xs : List (List ℕ)) → T (is_sorted (slice_cmp nat_cmp) (branches shared xs))
  branches-sorted [] = tt
  branches-sorted (x ∷ xs) =
      is_sorted-put (slice_cmp nat_cmp) nat_list_cmp_total (next_byte shared x) (x ∷ names_found (find (slice_cmp nat_cmp) (next_byte shared x) (branches shared xs)))
      (branches shared xs) (branches-sorted xs)

  -- the map that is gathered has the branches as its entries
  pub gathered_branches : (xs : List (List ℕ)) → maps.entries (gathered shared maps.empty xs) ≡ branches shared xs
  gathered_branches xs =
      same_entries (slice_cmp nat_cmp) nat_list_cmp_total bytes_exact _ _ (maps.entries_sorted (gathered shared maps.empty xs)) (branches-sorted xs) (λ q.
      sym (maps.get-entries (gathered shared maps.empty xs) q) ∙ gathered-at maps.empty xs q
      ∙ ap (λ o. more_found o (going_on shared q xs)) (get_empty q) ∙ sym (branches-find xs q))

-- what is found in the entries is what is there
pub found_in_entries : (m : BranchMap) (q : List ℕ) → find (slice_cmp nat_cmp) q (maps.entries m) ≡ maps.get m q
found_in_entries m q = sym (maps.get-entries m q)

-- an equality by items that holds of each item and itself
pub pointwise-refl : {A : Type 0} (E : A → A → Bool) → ((x : A) → E x x ≡ true) → (xs : List A) → pointwise E xs xs ≡ true
pointwise-refl E one [] = refl
pointwise-refl E one (x ∷ xs) = ap (λ t. t && pointwise E xs xs) (one x) ∙ pointwise-refl E one xs

pub bytes-refl : (xs : List ℕ) → pointwise nat_eq xs xs ≡ true
bytes-refl xs = pointwise-refl nat_eq (λ n. eq-eqb n n refl) xs
