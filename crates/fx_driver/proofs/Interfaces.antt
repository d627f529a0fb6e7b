-- A set that has the keys of a map lists them as the map does.
use Rattle.std.proofs.Common.{◌≡◌, ℕ, Bool, true, false, cond, ◌&&◌, List, [], ◌∷◌, map, Option, Some, None, is_some, T, refl, sym, ap, ◌∙◌, subst}
use Rattle.std.specs.Ordering.{nat_cmp, is_lt}
use Rattle.std.specs.Cmp.Lexicographic.{slice_cmp, nat_list_cmp_total}
use Rattle.std.specs.FinMap as maps
use Rattle.std.specs.FinMap.{entries, entries_sorted, entries-from_sorted, from_sorted, get-entries}
use Rattle.std.specs.FinMap.Entries as list
use Rattle.fx_base.specs.Extended.{taken_from}
use Rattle.fx_base.specs.Set as set
use Rattle.fx_base.specs.Set.{marked}
use Rattle.fx_base.proofs.KeyCases.{bytes_exact}
use Rattle.fx_base.proofs.SetAt.{contains_insert, contains_remove}
use Rattle.fx_base.proofs.Taken.{get_taken}
use Rattle.fx_model.specs.Messages.{Named}
use Rattle.fx_laws.proofs.EntryLookups.{is}

abbrev pub Names : Type 0
Names = set.Set (slice_cmp nat_cmp)

-- the set's names are the map's keys
abbrev pub HasKeys : {X : Type 0} → Names → Named X → Type 0
HasKeys s m = (k : List ℕ) → set.contains s k ≡ maps.contains_key m k

pub unit_options : (o p : Option (Unit {0})) → is_some o ≡ is_some p → o ≡ p
unit_options None None h = refl
unit_options None (Some y) h = cc
unit_options (Some x) None h = cc
unit_options (Some x) (Some y) h = refl

unmarked_keys : (ks : List (List ℕ)) → map (λ e. e.0) (marked ks) ≡ ks
unmarked_keys [] = refl
unmarked_keys (k ∷ ks) = ap (λ rest. k ∷ rest) (unmarked_keys ks)

module _ {X : Type 0} where
  marked_below : (k : List ℕ) (es : List (List ℕ × X)) → list.below_all (slice_cmp nat_cmp) k (marked (map (λ e. e.0) es)) ≡ list.below_all (slice_cmp nat_cmp) k es
  marked_below k [] = refl
  marked_below k (e ∷ es) = ap (λ b. is_lt (slice_cmp nat_cmp k e.0) && b) (marked_below k es)

  marked_sorted : (es : List (List ℕ × X)) → list.is_sorted (slice_cmp nat_cmp) (marked (map (λ e. e.0) es)) ≡ list.is_sorted (slice_cmp nat_cmp) es
  marked_sorted [] = refl
  marked_sorted (e ∷ es) = λ i. marked_below e.0 es i && marked_sorted es i

  marked_found : (q : List ℕ) (es : List (List ℕ × X)) → is_some (list.find (slice_cmp nat_cmp) q (marked (map (λ e. e.0) es))) ≡ is_some (list.find (slice_cmp nat_cmp) q es)
  marked_found q [] = refl
  marked_found q (e ∷ es) =
      elim (is q e.0) as (λ b. is_some (cond b (Some tt) (list.find (slice_cmp nat_cmp) q (marked (map (λ e. e.0) es)))) ≡ is_some (cond b (Some e.1) (list.find (slice_cmp nat_cmp) q es))) [
        | true ↦ refl
        | false ↦ marked_found q es
      ]

  module _ (m : Named X) where
    key_set : Names
    key_set = from_sorted (marked (maps.keys m))

    key_entries : entries key_set ≡ marked (maps.keys m)
    unfolding key_set
    key_entries = entries-from_sorted (slice_cmp nat_cmp) (marked (maps.keys m)) (subst T (sym (marked_sorted (entries m))) (entries_sorted m))

    key_there : (q : List ℕ) → set.contains key_set q ≡ maps.contains_key m q
    key_there q =
        ap is_some (get-entries key_set q) ∙ ap (λ es. is_some (list.find (slice_cmp nat_cmp) q es)) key_entries
        ∙ marked_found q (entries m) ∙ ap is_some (sym (get-entries m q))

    pub names_are : (s : Names) → HasKeys s m → set.items s ≡ maps.keys m
    names_are s h =
        ap set.items (maps.same_map nat_list_cmp_total bytes_exact s key_set (λ q. unit_options _ _ (h q ∙ sym (key_there q))))
        ∙ ap (map (λ e. e.0)) key_entries ∙ unmarked_keys (maps.keys m)

  -- maps that have the same keys list them alike
  pub same_keys : (m n : Named X) → ((k : List ℕ) → maps.contains_key n k ≡ maps.contains_key m k) → maps.keys n ≡ maps.keys m
  same_keys m n same = sym (names_are n (key_set m) (λ k. key_there m k ∙ sym (same k))) ∙ names_are m (key_set m) (key_there m)

  spread : (b : Bool) (x y : Option X) → is_some (cond b x y) ≡ cond b (is_some x) (is_some y)
  spread true x y = refl
  spread false x y = refl

  pub keys_put : (s : Names) (m n : Named X) (k : List ℕ) (x : X) → HasKeys s m → maps.get n k ≡ Some x → HasKeys (set.insert s k) (taken_from m n k)
  keys_put s m n k x h there q =
      contains_insert nat_list_cmp_total s k q
      ∙ ap (cond (is q k) true) (h q)
      ∙ ap (λ (o : Option X). cond (is q k) (is_some o) (maps.contains_key m q)) (sym there)
      ∙ sym (ap is_some (get_taken m n k q) ∙ spread (is q k) (maps.get n k) (maps.get m q))

  pub keys_gone : (s : Names) (m n : Named X) (k : List ℕ) → HasKeys s m → maps.get n k ≡ None → HasKeys (set.remove s k) (taken_from m n k)
  keys_gone s m n k h gone q =
      contains_remove nat_list_cmp_total s k q
      ∙ ap (cond (is q k) false) (h q)
      ∙ ap (λ (o : Option X). cond (is q k) (is_some o) (maps.contains_key m q)) (sym gone)
      ∙ sym (ap is_some (get_taken m n k q) ∙ spread (is q k) (maps.get n k) (maps.get m q))
