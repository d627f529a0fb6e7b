-- The pairs of the texts of each item, as a text is put or removed.
use Rattle.std.proofs.Common.{◌≡◌, ℕ, Bool, true, false, cond, ◌&&◌, ◌||◌, List, [], ◌∷◌, Some, is_some, T, refl, sym, ap, ◌∙◌}
use Rattle.std.specs.declared.cmp.Ordering.TheVariants.{Less, Equal, Greater}
use Rattle.std.specs.Ordering.{is_eq}
use Rattle.std.specs.List.{list_any}
use Rattle.std.specs.FinMap as map
use Rattle.std.specs.FinMap.{find, is_sorted}
use Rattle.fx_base.specs.Set as set
use Rattle.fx_base.specs.Grouped.{Texts, has_key, same_text}
use Rattle.fx_base.proofs.Entries.{entries-empty}
use Rattle.fx_model.specs.Pairs.{Pairs, pair_cmp, put}
use Rattle.fx_model.specs.declared.ids.ItemKey.{ItemKey}
use Rattle.fx_model.specs.contracts.ids.ItemKeyOrd.TheImpl.{cmp-value}
use Rattle.fx_model.proofs.Orders.{exact_item, pairs_total, exact_pair}
use Rattle.fx_model.proofs.PairAt.{contains_put_pair}
use Rattle.fx_active.specs.Rows.{ByItem, with_texts, pairs_in, pairs_of}
use Rattle.fx_active.specs.Steps.{same_item}
use Rattle.fx_base.proofs.Cases.{never, none_else, unit_same}
use Rattle.fx_base.proofs.Sorted.{gone, rest_sorted}

-- ---- the pairs of one item
joined : (a b c d : Bool) → cond (b && a) true ((a && c) || d) ≡ ((a && (b || c)) || d)
joined true true c d = refl
joined false true c d = refl
joined a false c d = refl

in_texts : (k : ItemKey) (ts : List (List ℕ)) (s : Pairs) (u : List ℕ) (i : ItemKey) → set.contains (with_texts k ts s) (u, i) ≡ ((same_item i k && list_any (λ t. same_text u t) ts) || set.contains s (u, i))
in_texts k [] s u i = sym (ap (λ b. b || set.contains s (u, i)) (never (same_item i k)))
in_texts k (t ∷ ts) s u i =
    contains_put_pair (with_texts k ts s) t k true u i
    ∙ ap (cond (same_text u t && same_item i k) true) (in_texts k ts s u i)
    ∙ joined (same_item i k) (same_text u t) (list_any (λ t. same_text u t) ts) (set.contains s (u, i))

-- ---- the pairs of all items
in_rows : (es : List (ItemKey × Texts)) → T (is_sorted cmp-value.it es) → (u : List ℕ) (i : ItemKey) → set.contains (pairs_in es) (u, i) ≡ has_key (find cmp-value.it i es) u
in_rows [] s u i = ap is_some (map.get-empty pair_cmp (u, i))
in_rows (e ∷ es) s u i =
    in_texts e.0 (set.items e.1) (pairs_in es) u i
    ∙ (λ j. (same_item i e.0 && sym (map.contains_key-keys e.1 u) j) || in_rows es (rest_sorted cmp-value.it e es s) u i j)
    ∙ elim (cmp-value.it i e.0) as (λ r. cmp-value.it i e.0 ≡ r → ((is_eq r && set.contains e.1 u) || has_key (find cmp-value.it i es) u) ≡ has_key (cond (is_eq r) (Some e.1) (find cmp-value.it i es)) u) [
      | Less ↦ λ p. refl
      | Equal ↦ λ p. ap (λ o. set.contains e.1 u || has_key o u) (gone cmp-value.it exact_item e es s i p) ∙ none_else (set.contains e.1 u)
      | Greater ↦ λ p. refl
    ] refl

pub in_pairs : (m : ByItem) (u : List ℕ) (i : ItemKey) → set.contains (pairs_of m) (u, i) ≡ has_key (map.get m i) u
in_pairs m u i = in_rows (map.entries m) (map.entries_sorted m) u i ∙ ap (λ o. has_key o u) (sym (map.get-entries m i))

-- ---- a pair more or less
pub no_rows : pairs_of map.empty ≡ set.empty
no_rows = ap pairs_in (entries-empty cmp-value.it)

same_pairs : (s t : Pairs) → ((u : List ℕ) (i : ItemKey) → set.contains s (u, i) ≡ set.contains t (u, i)) → s ≡ t
same_pairs s t h = map.same_map pairs_total exact_pair s t (λ p. unit_same (map.get s p) (map.get t p) (h p.0 p.1))

swapped : (a b : Bool) → (a && b) ≡ (b && a)
swapped true true = refl
swapped true false = refl
swapped false true = refl
swapped false false = refl

module _ (m now : ByItem) (text : List ℕ) (item : ItemKey) where
  abbrev IsPut : Bool → Type 0
  IsPut b = (i : ItemKey) (u : List ℕ) → has_key (map.get now i) u ≡ cond (same_item i item && same_text u text) b (has_key (map.get m i) u)

  at_pair : (b : Bool) → IsPut b → (u : List ℕ) (i : ItemKey) → set.contains (pairs_of now) (u, i) ≡ set.contains (put (pairs_of m) (text, item) b) (u, i)
  at_pair b at u i =
      in_pairs now u i ∙ at i u
      ∙ sym (ap (cond (same_item i item && same_text u text) b) (in_pairs m u i))
      ∙ ap (λ x. cond x b (set.contains (pairs_of m) (u, i))) (swapped (same_item i item) (same_text u text))
      ∙ sym (contains_put_pair (pairs_of m) text item b u i)

  pub pair_put : IsPut true → pairs_of now ≡ set.insert (pairs_of m) (text, item)
  pair_put at = same_pairs _ _ (at_pair true at)

  pub pair_out : IsPut false → pairs_of now ≡ set.remove (pairs_of m) (text, item)
  pair_out at = same_pairs _ _ (at_pair false at)
