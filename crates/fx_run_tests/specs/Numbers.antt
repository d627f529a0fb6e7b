-- A numbering: each line is answered by its number, and one that begins with an x is refused.
use Rattle.std.specs.Prelude.{◌≤◌, ◌+◌, ◌==◌, ℕ, List, [], ◌∷◌, ◌++◌, Bool, true, false, codes}
use Rattle.std.specs.Fmt.{decimal}

-- what stands between two lines: how many there were, and whether one was refused
pub record State : Type 0 where
  pub lines : ℕ
  pub refused : Bool

abbrev pub state_of : ℕ → Bool → State
state_of lines refused = record { lines = lines; refused = refused }

-- which lines are refused
abbrev pub leads_with_x : List ℕ → Bool
leads_with_x [] = false
leads_with_x (b ∷ line) = b == 120

abbrev pub counted : State → State
counted s = record s { lines = s.lines + 1 }

abbrev pub settled : State → Bool → State
settled s true = record s { refused = true }
settled s false = s

-- a line's number, or its refusal
abbrev pub number_line : ℕ → Bool → List ℕ
number_line n true = codes "refused " ++ (decimal n ++ codes "\n")
number_line n false = decimal n ++ codes "\n"

abbrev pub next : State → List ℕ → State
next s line = settled (counted s) (leads_with_x line)

abbrev pub text : State → List ℕ → List ℕ
text s line = number_line (s.lines + 1) (leads_with_x line)

abbrev pub was_refused : State → Bool
was_refused s = s.refused

-- a line was refused only where there was a line
abbrev pub IsRefusedBehindLines : ℕ → Bool → Type 0
IsRefusedBehindLines lines true = 1 ≤ lines
IsRefusedBehindLines lines false = Unit {0}
