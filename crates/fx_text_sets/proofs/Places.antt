-- Entries in the order of their texts as a set, and with one text more or less.
use Rattle.std.proofs.Common.{◌≡◌, ℕ, zero, suc, Bool, true, false, cond, ◌==◌, ◌↔◌, IsTrue, is_some, List, [], ◌∷◌, length, Some, None, Ordering, Less, refl, sym, ap, ◌∙◌, arith}
use Rattle.std.specs.Ordering.{nat_cmp, is_eq}
use Rattle.std.specs.Cmp.{eq_by_cmp_equiv}
use Rattle.std.specs.Cmp.Lexicographic.{slice_cmp, nat_list_cmp_total}
use Rattle.std.specs.List.{AllByRecursion, remove}
use Rattle.std.specs.List.Sorted.{IsStrictlySortedBy}
use Rattle.std.specs.Map.{lookup, keys_of, remove_entry}
use Rattle.std.specs.BTreeMap.{is_at}
use Rattle.std.proofs.lemmas.Map.{lookup-remove_entry}
use Rattle.std.proofs.lemmas.Map.Keys.{IsDistinct-from_sorted}
use Rattle.std.specs.FinMap as map
use Rattle.std.specs.FinMap.{from_entries, len-entries}
use Rattle.fx_base.specs.Set as set
use Rattle.fx_base.specs.Grouped.{Texts}
use Rattle.fx_base.specs.Same.{same_numbers}
use Rattle.fx_base.specs.TextPlaces.{Ascends, StandsAt, BelongsAt}
use Rattle.fx_base.proofs.Entries.{has, inserted, removed}
use Rattle.fx_base.proofs.KeyCases.{bytes_exact}
use Rattle.fx_base.proofs.Keyed.{one_key}
use Rattle.fx_base.proofs.TextPlaces.{found_there, missing_there}

abbrev pub Entry : Type 0
Entry = List ℕ × Unit {0}

abbrev pub Entries : Type 0
Entries = List Entry

abbrev order : List ℕ → List ℕ → Ordering
order = slice_cmp nat_cmp

module _ (k : List ℕ) where
  -- a text that is found is there
  pub found_in : (es : Entries) (m : Texts) → from_entries es ≡ m → (at : ℕ) → StandsAt k es at → true ≡ set.contains m k
  found_in es m is at here = has nat_list_cmp_total es m is k true (ap is_some (sym (found_there k es at here (k, tt))))

  -- and one that isn't found isn't
  pub missing_in : (es : Entries) (m : Texts) → from_entries es ≡ m → Ascends es → (at : ℕ) → BelongsAt k es at → false ≡ set.contains m k
  missing_in es m is s at free = has nat_list_cmp_total es m is k false (ap is_some (sym (missing_there k es s at free)))

  -- taken out of its place, it is removed
  taken : (es : Entries) (at : ℕ) → StandsAt k es at → remove es at ≡ remove_entry (is_at (order k)) es
  taken [] at h = absurd h
  taken (e ∷ es) zero h = ap (λ r. cond (is_eq r) es (e ∷ remove_entry (is_at (order k)) es)) (sym h)
  taken (e ∷ es) (suc at) h = ap (λ xs. e ∷ xs) (taken es at h.1) ∙ ap (λ r. cond (is_eq r) es (e ∷ remove_entry (is_at (order k)) es)) (sym h.0)

all_but : (P : List ℕ → Type 0) (es : Entries) (at : ℕ) → AllByRecursion P (keys_of es) → AllByRecursion P (keys_of (remove es at))
all_but P [] zero a = tt
all_but P [] (suc at) a = tt
all_but P (e ∷ es) zero a = a.1
all_but P (e ∷ es) (suc at) a = (a.0, all_but P es at a.1)

pub removed_ascends : (es : Entries) → Ascends es → (at : ℕ) → Ascends (remove es at)
unfolding IsStrictlySortedBy
removed_ascends [] s zero = tt
removed_ascends [] s (suc at) = tt
removed_ascends (e ∷ es) s zero = s.1
removed_ascends (e ∷ es) s (suc at) = (all_but (λ y. order e.0 y ≡ Less) es at s.0, removed_ascends es s.1 at)

-- ---- the texts as a set after each way to change it
module _ (es : Entries) (m : Texts) (is : from_entries es ≡ m) (s : Ascends es) (k : List ℕ) (at : ℕ) where
  there : StandsAt k es at → (q : List ℕ) (b : Bool) → is_at (order k) q ≡ b → lookup (is_at (order q)) es ≡ cond b (Some tt) (lookup (is_at (order q)) es)
  there here q true e = ap (λ z. lookup (is_at (order z)) es) (sym (one_key bytes_exact k q e)) ∙ found_there k es at here (k, tt)
  there here q false e = refl

  -- one that stands there is put already
  pub put_again : StandsAt k es at → m ≡ set.insert m k
  put_again here = sym is ∙ inserted nat_list_cmp_total bytes_exact es es m is k tt (λ q. there here q _ refl)

  pub taken_out : StandsAt k es at → from_entries (remove es at) ≡ set.remove m k
  taken_out here = removed nat_list_cmp_total bytes_exact es (remove es at) m is k (λ q.
      ap (lookup (is_at (order q))) (taken k es at here)
      ∙ lookup-remove_entry (eq_by_cmp_equiv nat_list_cmp_total) (is_at (order k)) (λ x y t. (eq_by_cmp_equiv nat_list_cmp_total).congr k x y t) q es (IsDistinct-from_sorted order (keys_of es) s))

  absent : BelongsAt k es at → (q : List ℕ) (b : Bool) → is_at (order k) q ≡ b → lookup (is_at (order q)) es ≡ cond b None (lookup (is_at (order q)) es)
  absent free q true e = ap (λ z. lookup (is_at (order z)) es) (sym (one_key bytes_exact k q e)) ∙ missing_there k es s at free
  absent free q false e = refl

  -- one that isn't there stays away
  pub nothing_out : BelongsAt k es at → m ≡ set.remove m k
  nothing_out free = sym is ∙ removed nat_list_cmp_total bytes_exact es es m is k (λ q. absent free q _ refl)

-- ---- no texts
pub no_length : (es : Entries) → length es ≡ 0 → es ≡ []
no_length [] e = refl
no_length (x ∷ es) e = absurd (omega arith)

pub empty_where : (m : Texts) (b : Bool) → b ≡ (set.len m == 0) → IsTrue b ↔ (map.entries m ≡ [])
empty_where m b e = (
  λ t. no_length (map.entries m) (sym (len-entries m) ∙ same_numbers (set.len m) 0 (sym e ∙ t)),
  λ none. e ∙ ap (λ n. n == 0) (len-entries m ∙ ap length none),
)
