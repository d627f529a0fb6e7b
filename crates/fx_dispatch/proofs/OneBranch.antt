-- What differs between two trees of which one byte's names alone are others.
use Rattle.std.proofs.Common.{◌≡◌, ℕ, Bool, true, false, cond, ◌&&◌, not, List, [], ◌∷◌, ◌++◌, Option, Some, None, T, refl, sym, ap, ◌∙◌, append-nil}
use Rattle.std.specs.Prelude.{if◌then◌else◌, nat_eq}
use Rattle.std.proofs.lemmas.Grind.{flat_map-append}
use Rattle.std.specs.List.{AllByRecursion, flat_map}
use Rattle.std.specs.declared.cmp.Ordering.TheVariants.{Less, Equal, Greater}
use Rattle.std.specs.Ordering.{nat_cmp, is_eq}
use Rattle.std.specs.Cmp.{eq_by_cmp_equiv}
use Rattle.std.specs.Cmp.Lexicographic.{slice_cmp, pointwise, nat_list_cmp_total}
use Rattle.std.specs.FinMap.{find, is_sorted, entries, entries_sorted, entries-insert}
use Rattle.fx_base.proofs.Cases.{second}
use Rattle.fx_base.proofs.Found.{each}
use Rattle.fx_base.proofs.KeyCases.{bytes_exact}
use Rattle.fx_base.proofs.Sorted.{gone}
use Rattle.fx_model.specs.Directions.{Direction}
use Rattle.fx_model.specs.Tree.{Branch, has_child, child_chain, child_entry}
use Rattle.fx_laws.proofs.EntryLookups.{is, is_itself}
use Rattle.fx_laws.proofs.Gathering.{more_found, pointwise-refl, bytes-refl}
use Rattle.fx_dispatch.specs.declared.way.Way.{Way}
use Rattle.fx_dispatch.specs.declared.way.Way.TheVariants.{Shared}
use Rattle.fx_dispatch.specs.Beside.{BranchMap, with_branch, ways_with}
use Rattle.fx_dispatch.specs.Differences.{are_found, child_write, child_delete, has_chain, has_chain_found, delete_at}
use Rattle.fx_dispatch.specs.Ways.{branch_ways}
use Rattle.fx_dispatch.proofs.EntryParts.{lower, upper, put_parts, others_parts, entries-remove}

pub none_then : {A : Type 0} (t : Bool) (xs : List A) → (if t && false then xs else []) ≡ []
none_then true xs = refl
none_then false xs = refl

never_both : {A : Type 0} (t : Bool) (xs : List A) → (if t && not t then xs else []) ≡ []
never_both true xs = refl
never_both false xs = refl

pub no_child : (byte : List ℕ) → has_child byte [] ≡ false
no_child [] = refl
no_child (n ∷ byte) = refl

-- ---- branches of which one alone gives anything

module _ {A : Type 0} (f : Branch → List A) (byte : List ℕ) where
  abbrev at_found : Option (List (List ℕ)) → List A
  at_found None = []
  at_found (Some names) = f (byte, names)

  only_at : (bs : List Branch) → T (is_sorted (slice_cmp nat_cmp) bs) → AllByRecursion (λ b. is byte b.0 ≡ false → f b ≡ []) bs → flat_map f bs ≡ at_found (find (slice_cmp nat_cmp) byte bs)
  only_at [] s h = refl
  only_at (b ∷ bs) s h =
      let rest = only_at bs (second _ _ s) h.1 in
      elim (slice_cmp nat_cmp byte b.0) as (λ r. slice_cmp nat_cmp byte b.0 ≡ r → (is_eq r ≡ false → f b ≡ []) → f b ++ flat_map f bs ≡ at_found (cond (is_eq r) (Some b.1) (find (slice_cmp nat_cmp) byte bs))) [
        | Less ↦ λ p none. ap (λ xs. xs ++ flat_map f bs) (none refl) ∙ rest
        | Equal ↦ λ p none.
            ap (λ xs. f b ++ xs) (rest ∙ ap at_found (gone (slice_cmp nat_cmp) bytes_exact b bs s byte p))
            ∙ append-nil (f b) ∙ ap (λ k. f (k, b.1)) (sym (bytes_exact byte b.0 p))
        | Greater ↦ λ p none. ap (λ xs. xs ++ flat_map f bs) (none refl) ∙ rest
      ] refl h.0

-- ---- branches before, and after one byte has these names

module _ (ob nb : List Branch) (byte : List ℕ) (ys : List (List ℕ)) (after : (q : List ℕ) → find (slice_cmp nat_cmp) q nb ≡ cond (is q byte) (more_found None ys) (find (slice_cmp nat_cmp) q ob)) where
  other : (k : List ℕ) → is byte k ≡ false → find (slice_cmp nat_cmp) k nb ≡ find (slice_cmp nat_cmp) k ob
  other k fails = after k ∙ ap (λ t. cond t (more_found None ys) (find (slice_cmp nat_cmp) k ob)) ((eq_by_cmp_equiv nat_list_cmp_total).symm k byte ∙ fails)

  here : find (slice_cmp nat_cmp) byte nb ≡ more_found None ys
  here = after byte ∙ ap (λ t. cond t (more_found None ys) (find (slice_cmp nat_cmp) byte ob)) (is_itself byte)

  -- a branch that stays is not written
  stays : (d : Direction) (b : Branch) → find (slice_cmp nat_cmp) b.0 nb ≡ Some b.1 → is byte b.0 ≡ false → child_write d ob b ≡ []
  stays d b found fails =
      ap (λ o. if has_child b.0 b.1 && not (are_found o b.1) then child_entry d b ∷ [] else []) (sym (other b.0 fails) ∙ found)
      ∙ ap (λ t. if has_child b.0 b.1 && not t then child_entry d b ∷ [] else []) (pointwise-refl (pointwise nat_eq) bytes-refl b.1)
      ∙ none_then (has_child b.0 b.1) (child_entry d b ∷ [])

  written_here : (d : Direction) → at_found (child_write d ob) byte (more_found None ys) ≡ child_write d ob (byte, ys)
  written_here d = by_names ys
    where
      by_names : (zs : List (List ℕ)) → at_found (child_write d ob) byte (more_found None zs) ≡ child_write d ob (byte, zs)
      by_names [] = ap (λ t. if t && not (are_found (find (slice_cmp nat_cmp) byte ob) []) then child_entry d (byte, []) ∷ [] else []) (sym (no_child byte))
      by_names (z ∷ zs) = refl

  pub writes_one : (d : Direction) → T (is_sorted (slice_cmp nat_cmp) nb) → AllByRecursion (λ b. find (slice_cmp nat_cmp) b.0 nb ≡ Some b.1) nb → flat_map (child_write d ob) nb ≡ child_write d ob (byte, ys)
  writes_one d sorted found =
      only_at (child_write d ob) byte nb sorted
      (each (λ b. find (slice_cmp nat_cmp) b.0 nb ≡ Some b.1) (λ b. is byte b.0 ≡ false → child_write d ob b ≡ []) (λ b f fails. stays d b f fails) nb found)
      ∙ ap (at_found (child_write d ob) byte) here ∙ written_here d

  -- nor is it deleted
  stands_on : (d : Direction) (b : Branch) → find (slice_cmp nat_cmp) b.0 ob ≡ Some b.1 → is byte b.0 ≡ false → child_delete d nb b ≡ []
  stands_on d b found fails =
      ap (λ o. if has_child b.0 b.1 && not (has_chain_found b.0 o) then child_chain d b.0 ∷ [] else []) (other b.0 fails ∙ found)
      ∙ never_both (has_child b.0 b.1) (child_chain d b.0 ∷ [])

  chain_here : has_chain nb byte ≡ has_child byte ys
  chain_here = ap (has_chain_found byte) here ∙ by_names ys
    where
      by_names : (zs : List (List ℕ)) → has_chain_found byte (more_found None zs) ≡ has_child byte zs
      by_names [] = sym (no_child byte)
      by_names (z ∷ zs) = refl

  deleted_here : (d : Direction) (o : Option (List (List ℕ))) → at_found (child_delete d nb) byte o ≡ (if has_chain_found byte o && not (has_child byte ys) then child_chain d byte ∷ [] else [])
  deleted_here d None = refl
  deleted_here d (Some names) = ap (λ t. if has_child byte names && not t then child_chain d byte ∷ [] else []) chain_here

  pub deletes_one : (d : Direction) → T (is_sorted (slice_cmp nat_cmp) ob) → AllByRecursion (λ b. find (slice_cmp nat_cmp) b.0 ob ≡ Some b.1) ob → flat_map (child_delete d nb) ob ≡ delete_at d ob byte ys
  deletes_one d sorted found =
      only_at (child_delete d nb) byte ob sorted
      (each (λ b. find (slice_cmp nat_cmp) b.0 ob ≡ Some b.1) (λ b. is byte b.0 ≡ false → child_delete d nb b ≡ []) (λ b f fails. stands_on d b f fails) ob found)
      ∙ deleted_here d (find (slice_cmp nat_cmp) byte ob)

-- ---- the root

module _ (shared byte : List ℕ) (m : BranchMap) where
  abbrev f : Branch → List Way
  f = branch_ways shared

  no_ways : f (byte, []) ≡ []
  no_ways = ap (λ (t : Bool). if t then one else []) (no_child byte)
    where
      one : List Way
      one = Shared (shared ++ byte) byte ∷ []

  pub ways_one : (ys : List (List ℕ)) → flat_map f (entries (with_branch byte ys m)) ≡ ways_with shared (entries m) byte ys
  ways_one [] =
      ap (flat_map f) (entries-remove m byte ∙ others_parts byte (entries m) (entries_sorted m))
      ∙ flat_map-append f (lower byte (entries m)) (upper byte (entries m))
      ∙ ap (λ ws. flat_map f (lower byte (entries m)) ++ (ws ++ flat_map f (upper byte (entries m)))) (sym no_ways)
  ways_one (y ∷ ys) =
      ap (flat_map f) (entries-insert nat_list_cmp_total m byte (y ∷ ys) ∙ put_parts byte (y ∷ ys) (entries m) (entries_sorted m))
      ∙ flat_map-append f (lower byte (entries m)) ((byte, y ∷ ys) ∷ upper byte (entries m))
