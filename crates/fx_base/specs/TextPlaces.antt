-- Entries in the order of their texts, and the place of a text among them.
use Rattle.std.specs.Prelude.{◌≡◌, ℕ, zero, suc, ⊤, List, [], ◌∷◌}
use Rattle.std.specs.Ordering.{nat_cmp}
use Rattle.std.specs.declared.cmp.Ordering.TheVariants.{Less, Equal, Greater}
use Rattle.std.specs.Cmp.Lexicographic.{slice_cmp}
use Rattle.std.specs.List.Sorted.{IsStrictlySortedBy}
use Rattle.std.specs.Map.{keys_of}

-- each text is below those after it
abbrev pub Ascends : {V : Type 0} → List (List ℕ × V) → Type 0
Ascends es = IsStrictlySortedBy (slice_cmp nat_cmp) (keys_of es)

-- the entry at this place has the text, and those before it have texts below it
abbrev pub StandsAt : {V : Type 0} → List ℕ → List (List ℕ × V) → ℕ → Type 0
StandsAt k [] at = ⊥
StandsAt k (e ∷ es) zero = slice_cmp nat_cmp k e.0 ≡ Equal
StandsAt k (e ∷ es) (suc at) = (slice_cmp nat_cmp k e.0 ≡ Greater) × StandsAt k es at

-- the texts before this place are below the text, and the one at this place, if there is one, is above it
abbrev pub BelongsAt : {V : Type 0} → List ℕ → List (List ℕ × V) → ℕ → Type 0
BelongsAt k [] zero = ⊤
BelongsAt k [] (suc at) = ⊥
BelongsAt k (e ∷ es) zero = slice_cmp nat_cmp k e.0 ≡ Less
BelongsAt k (e ∷ es) (suc at) = (slice_cmp nat_cmp k e.0 ≡ Greater) × BelongsAt k es at
