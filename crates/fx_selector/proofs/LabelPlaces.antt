-- Labels in the order of their keys, with a value that is written over another one.
use Rattle.std.proofs.Common.{◌≡◌, ℕ, suc, zero, ◌<◌, List, [], ◌∷◌, length, get_or, set, sym, ap, refl, ◌∙◌, Ordering, arith}
use Rattle.std.specs.Ordering.{nat_cmp, match_ordering}
use Rattle.std.specs.Cmp.Lexicographic.{slice_cmp, nat_list_cmp_total}
use Rattle.std.specs.Map.{keys_of}
use Rattle.std.specs.BTreeMap.{insert_entry}
use Rattle.std.specs.FinMap as map
use Rattle.std.specs.FinMap.{from_entries}
use Rattle.fx_base.specs.TextPlaces.{Ascends, StandsAt}
use Rattle.fx_base.proofs.Entries.{placed}
use Rattle.fx_base.proofs.TextPlaces.{key_there, stands_inside}
use Rattle.fx_selector.specs.Truth.{LabelMap}

abbrev Entries : Type 0
Entries = List (List ℕ × List ℕ)

abbrev order : List ℕ → List ℕ → Ordering
order = slice_cmp nat_cmp

module _ (b v : List ℕ) where
  -- written over, it is put
  pub written : (es : Entries) (at : ℕ) → StandsAt b es at → (d : List ℕ × List ℕ) → set es at ((get_or es at d).0, v) ≡ insert_entry order es b v
  written [] at h d = absurd h
  written (e ∷ es) zero h d = ap (λ r. match_ordering r ((b, v) ∷ e ∷ es) ((e.0, v) ∷ es) (e ∷ insert_entry order es b v)) (sym h)
  written (e ∷ es) (suc at) h d = ap (λ xs. e ∷ xs) (written es at h.1 d) ∙ ap (λ r. match_ordering r ((b, v) ∷ e ∷ es) ((e.0, v) ∷ es) (e ∷ insert_entry order es b v)) (sym h.0)

-- writing over a value moves no key
kept_keys : (es : Entries) (at : ℕ) (d : List ℕ × List ℕ) (v : List ℕ) → at < length es → keys_of (set es at ((get_or es at d).0, v)) ≡ keys_of es
kept_keys [] at d v l = absurd (omega (arith, l))
kept_keys (e ∷ es) zero d v l = refl
kept_keys (e ∷ es) (suc at) d v l = ap (λ ks. e.0 ∷ ks) (kept_keys es at d v (omega (arith, l)))

pub written_ascends : (es : Entries) → Ascends es → (at : ℕ) (d : List ℕ × List ℕ) (v : List ℕ) → at < length es → Ascends (set es at ((get_or es at d).0, v))
written_ascends es s at d v l = rw (kept_keys es at d v l) s

-- the labels as a map behind it
pub put_over : (es : Entries) (m : LabelMap) → from_entries es ≡ m → Ascends es → (k v : List ℕ) (at : ℕ) → StandsAt k es at → (d : List ℕ × List ℕ)
    → from_entries (set es at ((get_or es at d).0, v)) ≡ map.insert m k v
put_over es m is s k v at here d =
    let b : List ℕ = (get_or es at d).0 in
    let named : b ≡ k = key_there k es at here d in
    let there : StandsAt b es at = rw named here in
    placed nat_list_cmp_total es (set es at (b, v)) m is s (written_ascends es s at d v (stands_inside k es at here)) b v (written b v es at there d)
    ∙ ap (λ n. map.insert m n v) named
