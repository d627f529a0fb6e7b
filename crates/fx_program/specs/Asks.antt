-- What words ask for.
use Rattle.std.specs.Prelude.{◌≡◌, ℕ, List, Option, Some, None}

-- words ask for something, and this holds of it
abbrev pub Asks : {A : Type 0} → (A → Type 0) → Option A → Type 0
Asks Q None = ⊥
Asks Q (Some a) = Q a

-- some words ask for it
abbrev pub IsAskedFor : {A : Type 0} → (List (List ℕ) → Option A) → A → Type 0
IsAskedFor asked a = (words : List (List ℕ)) × (asked words ≡ Some a)
