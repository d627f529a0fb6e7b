-- Names in order with one more at its place, or without the one at it; and so the rules of their chain.
use Rattle.std.proofs.Common.{◌≡◌, ◌≢◌, ◌≤◌, ◌<◌, ◌+◌, ℕ, suc, Bool, true, false, cond, ◌&&◌, List, [], ◌∷◌, ◌++◌, filter, length, Option, Some, None, IsSome, refl, sym, ap, ◌∙◌, nat_lt, arith}
use Rattle.std.proofs.lemmas.Bool.Decides.{nat_tests}
use Rattle.std.specs.Prelude.{nat_eq}
use Rattle.std.specs.List.{AllByRecursion, insert, remove}
use Rattle.std.specs.declared.cmp.Ordering.{Ordering}
use Rattle.std.specs.declared.cmp.Ordering.TheVariants.{Less, Equal, Greater}
use Rattle.std.specs.Ordering.{nat_cmp, is_eq, is_lt, ordering_reverse}
use Rattle.std.specs.Cmp.Lexicographic.{slice_cmp, pointwise, nat_list_cmp_total}
use Rattle.std.specs.FinMap as maps
use Rattle.fx_base.specs.Same.{same_bytes, same_list, both_pass}
use Rattle.fx_base.proofs.Found.{each}
use Rattle.fx_model.specs.Directions.{Direction}
use Rattle.fx_model.specs.Tables.{dispatch_rules}
use Rattle.fx_model.specs.Tree.{has_child, names_found, own_rule}
use Rattle.fx_laws.proofs.EntryLookups.{is, is_itself}
use Rattle.fx_tables.proofs.Swapped.{still_there}
use Rattle.fx_dispatch.specs.Beside.{BranchMap, is_below, is_above, with_placed, left_out, place_in, too_few, more_than, has_more}

-- what was taken out of the branches are the byte's names
pub names_are : (m : BranchMap) (k : List ℕ) (names : List (List ℕ)) → maps.get m k ≡ Some names → names ≡ names_found (maps.get m k)
names_are m k names e = sym (ap names_found e)

pub branch_still : (m more : BranchMap) (k : List ℕ) (names : List (List ℕ)) → more ≡ maps.insert m k names → IsSome (maps.get more k)
branch_still m more k names e = still_there m more k names e

pub ruleset swapped = (branch_still)

-- ---- lists, at the end of their first part

module _ {A : Type 0} where
  pub put_behind : (a b : List A) (x : A) → insert (a ++ b) (length a) x ≡ a ++ x ∷ b
  put_behind [] b x = refl
  put_behind (y ∷ a) b x = ap (λ ys. y ∷ ys) (put_behind a b x)

  pub gone_behind : (a b : List A) (x : A) → remove (a ++ x ∷ b) (length a) ≡ a ++ b
  gone_behind [] b x = refl
  gone_behind (y ∷ a) b x = ap (λ ys. y ∷ ys) (gone_behind a b x)

  pub one_longer : (a b : List A) (x : A) → length (a ++ x ∷ b) ≡ suc (length (a ++ b))
  one_longer [] b x = refl
  one_longer (y ∷ a) b x = ap suc (one_longer a b x)

  pub first_shorter : (a b : List A) → length a ≤ length (a ++ b)
  first_shorter [] b = omega arith
  first_shorter (y ∷ a) b = omega (arith, first_shorter a b)

-- ---- the place of a name

reversed : (r : Ordering) → is_lt r ≡ true → is_lt (ordering_reverse r) ≡ false
reversed Less h = refl
reversed Equal h = refl
reversed Greater h = let wrong : false ≡ true = h in cc

-- what is above isn't below, nor is a name below itself
not_below : (x y : List ℕ) → is_above x y ≡ true → is_below x y ≡ false
not_below x y h = ap is_lt (nat_list_cmp_total.antisymm y x) ∙ reversed (slice_cmp nat_cmp x y) h

tied : (r : Ordering) → is_eq r ≡ true → is_lt r ≡ false
tied Less h = let wrong : false ≡ true = h in cc
tied Equal h = refl
tied Greater h = refl

not_itself : (x : List ℕ) → is_below x x ≡ false
not_itself x = tied (slice_cmp nat_cmp x x) (is_itself x)

all_pass : (t : List ℕ → Bool) (xs : List (List ℕ)) → AllByRecursion (λ y. t y ≡ true) (filter t xs)
all_pass t [] = tt
all_pass t (x ∷ xs) =
    elim (t x) as (λ b. t x ≡ b → AllByRecursion (λ y. t y ≡ true) (cond b (x ∷ filter t xs) (filter t xs))) [
      | true ↦ λ p. (p, all_pass t xs)
      | false ↦ λ p. all_pass t xs
    ] refl

module _ (x : List ℕ) where
  first_place : (b : List (List ℕ)) → AllByRecursion (λ y. is_below x y ≡ false) b → place_in x b ≡ 0
  first_place [] h = refl
  first_place (y ∷ b) h = ap (λ t. cond t (suc (place_in x b)) 0) h.0

  place_behind : (a b : List (List ℕ)) → AllByRecursion (λ y. is_below x y ≡ true) a → place_in x b ≡ 0 → place_in x (a ++ b) ≡ length a
  place_behind [] b h e = e
  place_behind (y ∷ a) b h e = ap (λ t. cond t (suc (place_in x (a ++ b))) 0) h.0 ∙ ap suc (place_behind a b h.1 e)

  module _ (names : List (List ℕ)) where
    abbrev pub lower : List (List ℕ)
    lower = filter (is_below x) names

    abbrev pub higher : List (List ℕ)
    higher = filter (is_above x) names

    -- ---- a name that isn't there

    pub place_new : names ≡ left_out x names → place_in x names ≡ length lower
    place_new e =
        ap (place_in x) e
        ∙ place_behind lower higher (all_pass (is_below x) names)
        (first_place higher (each (λ y. is_above x y ≡ true) (λ y. is_below x y ≡ false) (λ y h. not_below x y h) higher (all_pass (is_above x) names)))

    pub placed : names ≡ left_out x names → insert names (place_in x names) x ≡ with_placed x names
    placed e =
        ap (λ n. insert names n x) (place_new e) ∙ ap (λ (ns : List (List ℕ)). insert ns (length lower) x) e
        ∙ put_behind lower higher x

    pub longer : names ≡ left_out x names → length (with_placed x names) ≡ suc (length names)
    longer e = one_longer lower higher x ∙ ap (λ (ns : List (List ℕ)). suc (length ns)) (sym e)

    -- ---- a name that is there

    pub place_old : names ≡ with_placed x names → place_in x names ≡ length lower
    place_old e =
        ap (place_in x) e
        ∙ place_behind lower (x ∷ higher) (all_pass (is_below x) names) (ap (λ t. cond t (suc (place_in x higher)) 0) (not_itself x))

    pub taken : names ≡ with_placed x names → remove names (place_in x names) ≡ left_out x names
    taken e =
        ap (remove names) (place_old e) ∙ ap (λ (ns : List (List ℕ)). remove ns (length lower)) e
        ∙ gone_behind lower higher x

    pub shorter : names ≡ with_placed x names → length names ≡ suc (length (left_out x names))
    shorter e = ap length e ∙ one_longer lower higher x

    pub place_inside : names ≡ with_placed x names → place_in x names < length names
    place_inside e = omega (arith, place_old e, shorter e, first_shorter lower higher)

-- ---- rules

module _ (d : Direction) where
  pub rule_more : (a b : List (List ℕ)) (x : List ℕ) → insert (dispatch_rules d (a ++ b)) (length a) (own_rule d x) ≡ dispatch_rules d (a ++ x ∷ b)
  rule_more [] b x = refl
  rule_more (y ∷ a) b x = ap (λ rules. own_rule d y ∷ rules) (rule_more a b x)

  pub rule_less : (a b : List (List ℕ)) (x : List ℕ) → remove (dispatch_rules d (a ++ x ∷ b)) (length a) ≡ dispatch_rules d (a ++ b)
  rule_less [] b x = refl
  rule_less (y ∷ a) b x = ap (λ rules. own_rule d y ∷ rules) (rule_less a b x)

  pub rules_long : (names : List (List ℕ)) → length (dispatch_rules d names) ≡ suc (length names)
  rules_long [] = refl
  rules_long (y ∷ names) = ap suc (rules_long names)

-- ---- a byte that has a chain

pub record HasChain (few : ℕ) (byte : List ℕ) (m : BranchMap) : Type 0 where
  pub there : maps.get m byte ≡ Some (names_found (maps.get m byte))
  pub child : has_child byte (names_found (maps.get m byte)) ≡ true
  pub long : nat_lt few (length (names_found (maps.get m byte))) ≡ true
  pub beside : nat_lt 1 (maps.len m) ≡ true

pub chain_of_more : (few : ℕ) (byte : List ℕ) (m : BranchMap) → has_more few byte m ≡ true → HasChain few byte m
chain_of_more few byte m h = let f = by_found (maps.get m byte) h in record { there = f.0; child = f.1.0; long = f.1.1.0; beside = f.1.1.1 }
  where
    by_found : (o : Option (List (List ℕ))) → more_than few byte o (maps.len m) ≡ true → (o ≡ Some (names_found o)) × ((has_child byte (names_found o) ≡ true) × ((nat_lt few (length (names_found o)) ≡ true) × (nat_lt 1 (maps.len m) ≡ true)))
    by_found None p = let wrong : false ≡ true = p in cc
    by_found (Some names) p =
        let first = both_pass (has_child byte names) (nat_lt few (length names) && nat_lt 1 (maps.len m)) p in
        let rest = both_pass (nat_lt few (length names)) (nat_lt 1 (maps.len m)) first.1 in
        (refl, (first.0, (rest.0, rest.1)))

-- two names or more have one too
pub child_of_two : (byte : List ℕ) (xs ys : List (List ℕ)) → has_child byte xs ≡ true → 2 ≤ length ys → has_child byte ys ≡ true
child_of_two [] xs ys h two = let wrong : false ≡ true = h in cc
child_of_two (n ∷ byte) xs [] h two = absurd (omega (arith, two))
child_of_two (n ∷ byte) xs (y ∷ []) h two = absurd (omega (arith, two))
child_of_two (n ∷ byte) xs (y ∷ z ∷ ys) h two = refl

pub few_placed : (x : List ℕ) (a b : List (List ℕ)) → too_few (a ++ x ∷ b) ≡ 1
few_placed x [] b = refl
few_placed x (y ∷ a) b = refl

pub few_of_two : (ys : List (List ℕ)) → 2 ≤ length ys → too_few ys ≡ 1
few_of_two [] two = absurd (omega (arith, two))
few_of_two (y ∷ ys) two = refl

-- lists of names that aren't one are told apart
pub told_apart : (xs ys : List (List ℕ)) → xs ≢ ys → pointwise (pointwise nat_eq) xs ys ≡ false
told_apart xs ys other =
    elim (pointwise (pointwise nat_eq) xs ys) as (λ b. pointwise (pointwise nat_eq) xs ys ≡ b → b ≡ false) [
      | true ↦ λ p. absurd (other (same_list (pointwise nat_eq) same_bytes xs ys p))
      | false ↦ λ p. refl
    ] refl
