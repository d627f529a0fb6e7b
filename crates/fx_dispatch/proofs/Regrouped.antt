-- The branches of names of which one came or went, where what all share stays: the names of its byte alone are others.
use Rattle.std.proofs.Common.{◌≡◌, ◌≤◌, ◌+◌, ◌-◌, ◌==◌, ℕ, Bool, true, false, cond, ◌&&◌, List, [], ◌∷◌, ◌++◌, filter, length, Option, Some, None, IsSome, refl, sym, ap, ◌∙◌, subst, nat_lt, arith}
use Rattle.std.proofs.lemmas.Bool.Decides.{nat_tests}
use Rattle.std.specs.List.{AllByRecursion}
use Rattle.std.specs.declared.cmp.Ordering.TheVariants.{Less, Equal, Greater}
use Rattle.std.specs.Ordering.{nat_cmp, is_eq}
use Rattle.std.specs.Cmp.Lexicographic.{slice_cmp, nat_list_cmp_total}
use Rattle.std.specs.FinMap as maps
use Rattle.std.specs.FinMap.{find, len-insert, len-remove, len-entries}
use Rattle.std.specs.FinMap.Entries.{same_entries}
use Rattle.fx_base.specs.Set as set
use Rattle.fx_base.specs.Same.{same_bytes, both_pass}
use Rattle.fx_base.proofs.AtKey.{get_insert, get_remove}
use Rattle.fx_base.proofs.KeyCases.{bytes_exact}
use Rattle.fx_model.specs.Tree.{next_byte, names_found, branches, common_prefix}
use Rattle.fx_laws.proofs.EntryLookups.{is, is_itself}
use Rattle.fx_laws.proofs.Gathering.{going_on, more_found, branches-find, branches-sorted}
use Rattle.fx_laws.proofs.Uses.{all-append}
use Rattle.fx_dispatch.specs.declared.tree.Tree.{Tree}
use Rattle.fx_dispatch.specs.Beside.{BranchMap, is_below, is_above, with_placed, left_out, begins, with_branch, too_few}
use Rattle.fx_dispatch.specs.Laid.{IsTreeOf, IsRegrouped}
use Rattle.fx_dispatch.specs.Plans.{Names}
use Rattle.fx_dispatch.proofs.Beginnings.{Starts, common_second, all_start, shared_with}
use Rattle.fx_dispatch.proofs.Planned.{insert_there, remove_absent}
use Rattle.fx_dispatch.proofs.EntryParts.{placed_filtered, left_filtered, items-insert, items-remove, passed-insert, passed-remove, all_filter}

-- ---- branches with these names at a byte

pub get-with : (byte : List ℕ) (names : List (List ℕ)) (m : BranchMap) (q : List ℕ) → maps.get (with_branch byte names m) q ≡ cond (is q byte) (more_found None names) (maps.get m q)
get-with byte [] m q = get_remove m byte q
get-with byte (name ∷ names) m q = get_insert m byte (name ∷ names) q

pub with_some : (byte : List ℕ) (xs : List (List ℕ)) (y : List ℕ) (ys : List (List ℕ)) (m : BranchMap) → with_branch byte (xs ++ y ∷ ys) m ≡ maps.insert m byte (xs ++ y ∷ ys)
with_some byte [] y ys m = refl
with_some byte (x ∷ xs) y ys m = refl

fewer : (b : Bool) (n : ℕ) → nat_lt 2 n ≡ true → 2 ≤ cond b (n - 1) n
fewer true n h = grind (arith, nat_tests, h)
fewer false n h = grind (arith, nat_tests, h)

more : (b : Bool) (n : ℕ) → nat_lt 1 n ≡ true → 2 ≤ cond b n (n + 1)
more true n h = grind (arith, nat_tests, h)
more false n h = grind (arith, nat_tests, h)

-- two branches or more are left
two_left : (byte : List ℕ) (names : List (List ℕ)) (m : BranchMap) → nat_lt (too_few names) (maps.len m) ≡ true → 2 ≤ maps.len (with_branch byte names m)
two_left byte [] m h = subst (λ n. 2 ≤ n) (sym (len-remove nat_list_cmp_total m byte)) (fewer (maps.contains_key m byte) (maps.len m) h)
two_left byte (name ∷ names) m h = subst (λ n. 2 ≤ n) (sym (len-insert nat_list_cmp_total m byte (name ∷ names))) (more (maps.contains_key m byte) (maps.len m) h)

found_names : (ys : List (List ℕ)) → names_found (more_found None ys) ≡ ys
found_names [] = refl
found_names (y ∷ ys) = refl

-- ---- names of which those of one byte are others

module _ (shared byte : List ℕ) (os ns ys : List (List ℕ)) (here : going_on shared byte ns ≡ ys) (there : (q : List ℕ) → is q byte ≡ false → going_on shared q ns ≡ going_on shared q os) where
  found_after : (q : List ℕ) → find (slice_cmp nat_cmp) q (branches shared ns) ≡ cond (is q byte) (more_found None ys) (find (slice_cmp nat_cmp) q (branches shared os))
  found_after q =
      let other = λ (fails : is q byte ≡ false). ap (more_found None) (there q fails) ∙ sym (branches-find shared os q) in
      branches-find shared ns q
      ∙ elim (slice_cmp nat_cmp q byte) as (λ r. slice_cmp nat_cmp q byte ≡ r → more_found None (going_on shared q ns) ≡ cond (is_eq r) (more_found None ys) (find (slice_cmp nat_cmp) q (branches shared os))) [
        | Less ↦ λ p. other (ap is_eq p)
        | Equal ↦ λ p. ap (λ k. more_found None (going_on shared k ns)) (bytes_exact q byte p) ∙ ap (more_found None) here
        | Greater ↦ λ p. other (ap is_eq p)
      ] refl

  regrouped : (m : BranchMap) → maps.entries m ≡ branches shared os → maps.entries (with_branch byte ys m) ≡ branches shared ns
  regrouped m are =
      same_entries (slice_cmp nat_cmp) nat_list_cmp_total bytes_exact _ _ (maps.entries_sorted (with_branch byte ys m)) (branches-sorted shared ns) (λ q.
      sym (maps.get-entries (with_branch byte ys m) q) ∙ get-with byte ys m q
      ∙ ap (cond (is q byte) (more_found None ys)) (maps.get-entries m q ∙ ap (find (slice_cmp nat_cmp) q) are)
      ∙ sym (found_after q))

-- ---- one name that came, or went

module _ (tree : Tree) (s : Names) (x : List ℕ) (held : IsTreeOf tree (set.items s)) where
  abbrev byte : List ℕ
  byte = next_byte tree.shared x

  are : maps.entries tree.branches ≡ branches tree.shared (set.items s)
  are = held.branches_are ∙ ap (λ p. branches p (set.items s)) (sym held.shared_is)

  -- the names of its byte
  abbrev found : List (List ℕ)
  found = names_found (maps.get tree.branches byte)

  found_is : going_on tree.shared byte (set.items s) ≡ found
  found_is =
      sym (ap names_found (maps.get-entries tree.branches byte ∙ ap (find (slice_cmp nat_cmp) byte) are ∙ branches-find tree.shared (set.items s) byte)
      ∙ found_names (going_on tree.shared byte (set.items s)))

  all_begin : AllByRecursion (Starts tree.shared) (set.items s)
  all_begin = subst (λ p. AllByRecursion (Starts p) (set.items s)) (sym held.shared_is) (all_start (set.items s))

  two : (ns ys : List (List ℕ)) → maps.entries (with_branch byte ys tree.branches) ≡ branches tree.shared ns → nat_lt (too_few ys) (maps.len tree.branches) ≡ true → 2 ≤ length (branches tree.shared ns)
  two ns ys parts h =
      subst (λ n. 2 ≤ n) (len-entries (with_branch byte ys tree.branches) ∙ ap length parts) (two_left byte ys tree.branches h)

  came : (begins x tree.shared && nat_lt (too_few (with_placed x found)) (maps.len tree.branches)) ≡ true → IsRegrouped tree byte (with_placed x found) (set.items (set.insert s x))
  came fits = record {
    shares = shared_with tree.shared (set.items (set.insert s x)) begin (two (set.items (set.insert s x)) (with_placed x found) parts_are (both_pass _ _ fits).1);
    parts = parts_are;
  }
    where
      parts_are : maps.entries (with_branch byte (with_placed x found) tree.branches) ≡ branches tree.shared (set.items (set.insert s x))
      parts_are =
          regrouped tree.shared byte (set.items s) (set.items (set.insert s x)) (with_placed x found)
          (ap (λ ys. going_on tree.shared byte ys) (items-insert s x)
          ∙ placed_filtered (λ y. is byte (next_byte tree.shared y)) x (set.items s) (is_itself byte) ∙ ap (with_placed x) found_is)
          (λ q fails. passed-insert s x (λ y. is q (next_byte tree.shared y)) fails)
          tree.branches are

      itself : Starts tree.shared x
      itself = subst (λ p. Starts p x) (same_bytes (common_prefix tree.shared x) tree.shared (both_pass _ _ fits).0) (common_second tree.shared x)

      begin : AllByRecursion (Starts tree.shared) (set.items (set.insert s x))
      begin =
          subst (AllByRecursion (Starts tree.shared)) (sym (items-insert s x))
          (all-append (Starts tree.shared) (filter (is_below x) (set.items s)) (x ∷ filter (is_above x) (set.items s))
          (all_filter (Starts tree.shared) (is_below x) (set.items s) all_begin)
          (itself, all_filter (Starts tree.shared) (is_above x) (set.items s) all_begin))

  went : nat_lt (too_few (left_out x found)) (maps.len tree.branches) ≡ true → IsRegrouped tree byte (left_out x found) (set.items (set.remove s x))
  went fits = record {
    shares = shared_with tree.shared (set.items (set.remove s x)) begin (two (set.items (set.remove s x)) (left_out x found) parts_are fits);
    parts = parts_are;
  }
    where
      parts_are : maps.entries (with_branch byte (left_out x found) tree.branches) ≡ branches tree.shared (set.items (set.remove s x))
      parts_are =
          regrouped tree.shared byte (set.items s) (set.items (set.remove s x)) (left_out x found)
          (ap (λ ys. going_on tree.shared byte ys) (items-remove s x)
          ∙ left_filtered (λ y. is byte (next_byte tree.shared y)) x (set.items s) ∙ ap (left_out x) found_is)
          (λ q fails. passed-remove s x (λ y. is q (next_byte tree.shared y)) fails)
          tree.branches are

      begin : AllByRecursion (Starts tree.shared) (set.items (set.remove s x))
      begin =
          subst (AllByRecursion (Starts tree.shared)) (sym (items-remove s x))
          (all-append (Starts tree.shared) (filter (is_below x) (set.items s)) (filter (is_above x) (set.items s))
          (all_filter (Starts tree.shared) (is_below x) (set.items s) all_begin)
          (all_filter (Starts tree.shared) (is_above x) (set.items s) all_begin))

  -- ---- the same, of a byte and names that were found to be these

  pub regrouped_came : (b : List ℕ) (ys : List (List ℕ)) → b ≡ byte → ys ≡ with_placed x (names_found (maps.get tree.branches b)) → (begins x tree.shared && nat_lt (too_few ys) (maps.len tree.branches)) ≡ true → IsRegrouped tree b ys (set.items (set.insert s x))
  regrouped_came b ys e f fits =
      let g : ys ≡ with_placed x found = f ∙ ap (λ k. with_placed x (names_found (maps.get tree.branches k))) e in
      subst (λ k. IsRegrouped tree k ys (set.items (set.insert s x))) (sym e)
      (subst (λ (zs : List (List ℕ)). IsRegrouped tree byte zs (set.items (set.insert s x))) (sym g)
      (came (ap (λ (zs : List (List ℕ)). begins x tree.shared && nat_lt (too_few zs) (maps.len tree.branches)) (sym g) ∙ fits)))

  pub regrouped_went : (b : List ℕ) (ys : List (List ℕ)) → b ≡ byte → ys ≡ left_out x (names_found (maps.get tree.branches b)) → nat_lt (too_few ys) (maps.len tree.branches) ≡ true → IsRegrouped tree b ys (set.items (set.remove s x))
  regrouped_went b ys e f fits =
      let g : ys ≡ left_out x found = f ∙ ap (λ k. left_out x (names_found (maps.get tree.branches k))) e in
      subst (λ k. IsRegrouped tree k ys (set.items (set.remove s x))) (sym e)
      (subst (λ (zs : List (List ℕ)). IsRegrouped tree byte zs (set.items (set.remove s x))) (sym g)
      (went (ap (λ (zs : List (List ℕ)). nat_lt (too_few zs) (maps.len tree.branches)) (sym g) ∙ fits)))

  -- ---- the byte's names around the place of this one

  absent_parts : set.contains s x ≡ false → found ≡ left_out x found
  absent_parts h =
      sym found_is ∙ ap (λ ys. going_on tree.shared byte ys) (ap set.items (remove_absent s x (sym h)) ∙ items-remove s x)
      ∙ left_filtered (λ y. is byte (next_byte tree.shared y)) x (set.items s) ∙ ap (left_out x) found_is

  there_parts : set.contains s x ≡ true → found ≡ with_placed x found
  there_parts h =
      sym found_is ∙ ap (λ ys. going_on tree.shared byte ys) (ap set.items (insert_there s x (sym h)) ∙ items-insert s x)
      ∙ placed_filtered (λ y. is byte (next_byte tree.shared y)) x (set.items s) (is_itself byte) ∙ ap (with_placed x) found_is

  pub found_absent : (b : List ℕ) → b ≡ byte → set.contains s x ≡ false → names_found (maps.get tree.branches b) ≡ left_out x (names_found (maps.get tree.branches b))
  found_absent b e h = subst (λ k. names_found (maps.get tree.branches k) ≡ left_out x (names_found (maps.get tree.branches k))) (sym e) (absent_parts h)

  pub found_there : (b : List ℕ) → b ≡ byte → set.contains s x ≡ true → names_found (maps.get tree.branches b) ≡ with_placed x (names_found (maps.get tree.branches b))
  found_there b e h = subst (λ k. names_found (maps.get tree.branches k) ≡ with_placed x (names_found (maps.get tree.branches k))) (sym e) (there_parts h)

-- where there are no names at a byte, none are left there
pub none_left : (m : BranchMap) (k x : List ℕ) (ys : List (List ℕ)) → ys ≡ left_out x (names_found (maps.get m k)) → maps.get m k ≡ None → ys ≡ []
none_left m k x ys e none = e ∙ ap (λ o. left_out x (names_found o)) none

-- names of which one was placed are some
pub placed_some : (m : BranchMap) (k x : List ℕ) (xs ys : List (List ℕ)) → ys ≡ with_placed x xs → with_branch k ys m ≡ maps.insert m k ys
placed_some m k x xs ys e = subst (λ (zs : List (List ℕ)). with_branch k zs m ≡ maps.insert m k zs) (sym e) (with_some k (filter (is_below x) xs) x (filter (is_above x) xs) m)

-- ---- a byte that is there is given names, or taken away

pub none_with : (m : BranchMap) (k : List ℕ) (names : List (List ℕ)) → (length names == 0) ≡ true → with_branch k names m ≡ maps.remove m k
none_with m k [] e = refl
none_with m k (name ∷ names) e = grind (arith, nat_tests, e)

pub these_with : (m : BranchMap) (k : List ℕ) (names : List (List ℕ)) → (length names == 0) ≡ false → with_branch k names m ≡ maps.insert m k names
these_with m k [] e = let wrong : true ≡ false = e in cc
these_with m k (name ∷ names) e = refl

pub some_there : (m : BranchMap) (k : List ℕ) (names : List (List ℕ)) → (maps.get m k ≡ None → names ≡ []) → (length names == 0) ≡ false → IsSome (maps.get m k)
some_there m k names h some = by_found (maps.get m k) refl
  where
    by_found : (o : Option (List (List ℕ))) → maps.get m k ≡ o → IsSome o
    by_found None e = let wrong : true ≡ false = sym (ap (λ (ns : List (List ℕ)). length ns == 0) (h e)) ∙ some in cc
    by_found (Some before) e = refl
