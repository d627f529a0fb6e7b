-- Pieces of a text, parted by a byte: 32 is a space, 44 `,`, 47 `/` and 58 `:`.
use Rattle.std.specs.Prelude.{ℕ, List, [], ◌∷◌, ◌==◌, if◌then◌else◌}

-- what stands before the first mark, and what stands behind it
abbrev pub piece : ℕ → List ℕ → List ℕ
piece mark [] = []
piece mark (c ∷ cs) = if c == mark then [] else c ∷ piece mark cs

abbrev pub behind : ℕ → List ℕ → List ℕ
behind mark [] = []
behind mark (c ∷ cs) = if c == mark then cs else behind mark cs

-- the first word, and what stands behind its space
abbrev pub word : List ℕ → List ℕ
word text = piece 32 text

abbrev pub rest : List ℕ → List ℕ
rest text = behind 32 text

-- all pieces; an empty text has none
abbrev pub with_first : ℕ → List (List ℕ) → List (List ℕ)
with_first c [] = (c ∷ []) ∷ []
with_first c (p ∷ ps) = (c ∷ p) ∷ ps

abbrev pub pieces : ℕ → List ℕ → List (List ℕ)
pieces mark [] = []
pieces mark (c ∷ cs) = if c == mark then [] ∷ pieces mark cs else with_first c (pieces mark cs)

abbrev pub words : List ℕ → List (List ℕ)
words text = pieces 32 text
