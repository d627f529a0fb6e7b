-- The pairs of the items of each text, as an item is put or removed.
use Rattle.std.proofs.Common.{◌≡◌, ℕ, Bool, true, false, cond, ◌&&◌, ◌||◌, List, [], ◌∷◌, Some, is_some, T, refl, sym, ap, ◌∙◌}
use Rattle.std.specs.declared.cmp.Ordering.TheVariants.{Less, Equal, Greater}
use Rattle.std.specs.Ordering.{nat_cmp, is_eq}
use Rattle.std.specs.Cmp.Lexicographic.{slice_cmp}
use Rattle.std.specs.List.{list_any}
use Rattle.std.specs.FinMap as map
use Rattle.std.specs.FinMap.{find, is_sorted}
use Rattle.fx_base.specs.Set as set
use Rattle.fx_base.specs.Grouped.{has_key, same_text}
use Rattle.fx_base.proofs.Entries.{entries-empty}
use Rattle.fx_base.proofs.KeyCases.{bytes_exact}
use Rattle.fx_model.specs.Pairs.{Pairs, pair_cmp, put}
use Rattle.fx_model.specs.declared.ids.ItemKey.{ItemKey}
use Rattle.fx_model.proofs.Orders.{pairs_total, exact_pair}
use Rattle.fx_model.proofs.PairAt.{contains_put_pair}
use Rattle.fx_members.specs.Indexes.{Keys, ItemsByText, same_item, with_items, pairs_in, pairs_of}
use Rattle.fx_base.proofs.Cases.{never, none_else, unit_same}
use Rattle.fx_base.proofs.Sorted.{gone, rest_sorted}

-- ---- the pairs of one text
joined : (a b c d : Bool) → cond (a && b) true ((a && c) || d) ≡ ((a && (b || c)) || d)
joined false b c d = refl
joined true true c d = refl
joined true false c d = refl

in_items : (t : List ℕ) (is : List ItemKey) (s : Pairs) (u : List ℕ) (i : ItemKey) → set.contains (with_items t is s) (u, i) ≡ ((same_text u t && list_any (λ k. same_item i k) is) || set.contains s (u, i))
in_items t [] s u i = sym (ap (λ b. b || set.contains s (u, i)) (never (same_text u t)))
in_items t (k ∷ is) s u i =
    contains_put_pair (with_items t is s) t k true u i
    ∙ ap (cond (same_text u t && same_item i k) true) (in_items t is s u i)
    ∙ joined (same_text u t) (same_item i k) (list_any (λ k. same_item i k) is) (set.contains s (u, i))

-- ---- the pairs of all texts
in_rows : (es : List (List ℕ × Keys)) → T (is_sorted (slice_cmp nat_cmp) es) → (u : List ℕ) (i : ItemKey) → set.contains (pairs_in es) (u, i) ≡ has_key (find (slice_cmp nat_cmp) u es) i
in_rows [] s u i = ap is_some (map.get-empty pair_cmp (u, i))
in_rows (e ∷ es) s u i =
    in_items e.0 (set.items e.1) (pairs_in es) u i
    ∙ (λ j. (same_text u e.0 && sym (map.contains_key-keys e.1 i) j) || in_rows es (rest_sorted (slice_cmp nat_cmp) e es s) u i j)
    ∙ elim (slice_cmp nat_cmp u e.0) as (λ r. slice_cmp nat_cmp u e.0 ≡ r → ((is_eq r && set.contains e.1 i) || has_key (find (slice_cmp nat_cmp) u es) i) ≡ has_key (cond (is_eq r) (Some e.1) (find (slice_cmp nat_cmp) u es)) i) [
      | Less ↦ λ p. refl
      | Equal ↦ λ p. ap (λ o. set.contains e.1 i || has_key o i) (gone (slice_cmp nat_cmp) bytes_exact e es s u p) ∙ none_else (set.contains e.1 i)
      | Greater ↦ λ p. refl
    ] refl

pub in_pairs : (m : ItemsByText) (u : List ℕ) (i : ItemKey) → set.contains (pairs_of m) (u, i) ≡ has_key (map.get m u) i
in_pairs m u i = in_rows (map.entries m) (map.entries_sorted m) u i ∙ ap (λ o. has_key o i) (sym (map.get-entries m u))

-- ---- a pair more or less
pub no_pairs : pairs_of map.empty ≡ set.empty
no_pairs = ap pairs_in (entries-empty (slice_cmp nat_cmp))

same_pairs : (s t : Pairs) → ((u : List ℕ) (i : ItemKey) → set.contains s (u, i) ≡ set.contains t (u, i)) → s ≡ t
same_pairs s t h = map.same_map pairs_total exact_pair s t (λ p. unit_same (map.get s p) (map.get t p) (h p.0 p.1))

module _ (m now : ItemsByText) (t : List ℕ) (item : ItemKey) where
  abbrev IsPut : Bool → Type 0
  IsPut b = (u : List ℕ) (i : ItemKey) → has_key (map.get now u) i ≡ cond (same_text u t && same_item i item) b (has_key (map.get m u) i)

  at_pair : (b : Bool) → IsPut b → (u : List ℕ) (i : ItemKey) → set.contains (pairs_of now) (u, i) ≡ set.contains (put (pairs_of m) (t, item) b) (u, i)
  at_pair b at u i =
      in_pairs now u i ∙ at u i
      ∙ sym (ap (cond (same_text u t && same_item i item) b) (in_pairs m u i))
      ∙ sym (contains_put_pair (pairs_of m) t item b u i)

  pub pair_put : IsPut true → pairs_of now ≡ set.insert (pairs_of m) (t, item)
  pair_put at = same_pairs _ _ (at_pair true at)

  pub pair_out : IsPut false → pairs_of now ≡ set.remove (pairs_of m) (t, item)
  pair_out at = same_pairs _ _ (at_pair false at)
