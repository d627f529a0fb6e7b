-- Which texts the language has, within limits and without, and where a fault stands.
use Rattle.std.specs.Prelude.{◌≡◌, ℕ, ◌<◌, ◌≤◌, List, [], ◌∷◌, ◌++◌, length, take, drop}
use Rattle.fx_selector.specs.Tree.{Tree}
use Rattle.fx_selector.specs.Language.{SelectorText}
use Rattle.fx_selector.specs.declared.fault.SelectorFault.{SelectorFault}
use Rattle.fx_selector.specs.declared.fault.SelectorFault.TheVariants.{Unexpected, TooDeep, TooLong, KeyTooLong, Memory}

-- the text spells the tree: with no limits
abbrev pub Spells : List ℕ → Tree → Type 0
Spells text t = (key n depth : ℕ) × (0 < key) × SelectorText key n depth text t

-- with keys of at most so many bytes, and at most so many `!` and grouping `(` open around one place
abbrev pub Allows : ℕ → ℕ → List ℕ → Tree → Type 0
Allows key depth text t = (n : ℕ) × SelectorText key n depth text t

-- within one of the limits alone
abbrev pub NestsWithin : ℕ → List ℕ → Tree → Type 0
NestsWithin depth text t = (key n : ℕ) × (0 < key) × SelectorText key n depth text t

abbrev pub KeysWithin : ℕ → List ℕ → Tree → Type 0
KeysWithin key text t = (n depth : ℕ) × SelectorText key n depth text t

-- some text of the language begins so
abbrev pub Begins : (List ℕ → Tree → Type 0) → List ℕ → Type 0
Begins L text = (more : List ℕ) × (t : Tree) × L (text ++ more) t

-- A fault stands behind the bytes taken, where rest is left. What is taken begins a text within the limits, so no
-- fault has a lesser place.

-- with the next byte no text of the language begins, or the text ends and is none
abbrev pub IsUnexpected : ℕ → ℕ → List ℕ → List ℕ → Type 0
IsUnexpected key depth taken rest =
    Begins (Allows key depth) taken × ((c : ℕ) (m : List ℕ) → rest ≡ c ∷ m → Begins Spells (taken ++ c ∷ []) → ⊥) × (rest ≡ [] → (t : Tree) → Spells taken t → ⊥)

-- with the next byte a text with keys so short begins, but none within the depth
abbrev pub IsTooDeep : ℕ → ℕ → List ℕ → List ℕ → Type 0
IsTooDeep key depth taken rest =
    Begins (Allows key depth) taken × (c : ℕ) × (m : List ℕ) × (rest ≡ c ∷ m) × Begins (KeysWithin key) (taken ++ c ∷ []) × (Begins (NestsWithin depth) (taken ++ c ∷ []) → ⊥)

-- with the next byte a text within the depth begins, but none with keys so short
abbrev pub IsKeyTooLong : ℕ → ℕ → List ℕ → List ℕ → Type 0
IsKeyTooLong key depth taken rest =
    Begins (Allows key depth) taken × (c : ℕ) × (m : List ℕ) × (rest ≡ c ∷ m) × Begins (NestsWithin depth) (taken ++ c ∷ []) × (Begins (KeysWithin key) (taken ++ c ∷ []) → ⊥)

-- the language and its limits allow the text, and it spells this tree
abbrev pub Means : List ℕ → Tree → Type 0
Means text t = (length text ≤ 65536) × Allows 512 64 text t

-- such a fault stands at a place of a text that is not too long
abbrev pub StandsAt : (List ℕ → List ℕ → Type 0) → List ℕ → ℕ → Type 0
StandsAt F text at = (length text ≤ 65536) × (at ≤ length text) × F (take at text) (drop at text)

-- the text has this fault; want of memory says nothing of the text
abbrev pub IsSelectorFault : List ℕ → SelectorFault → Type 0
IsSelectorFault text (Unexpected at) = StandsAt (IsUnexpected 512 64) text at
IsSelectorFault text (TooDeep at) = StandsAt (IsTooDeep 512 64) text at
IsSelectorFault text TooLong = 65536 < length text
IsSelectorFault text (KeyTooLong at) = StandsAt (IsKeyTooLong 512 64) text at
IsSelectorFault text Memory = Unit {0}
