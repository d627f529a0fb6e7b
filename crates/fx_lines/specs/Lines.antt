-- The lines of some bytes: each ends with a newline, or at the end of the bytes. An empty last piece is no line.
use Rattle.std.specs.Prelude.{◌≢◌, ℕ, List, [], ◌∷◌, ◌==◌, ◌+◌, ◌^◌, take, if◌then◌else◌, Bool, true, false}
use Rattle.std.specs.List.{list_any}

-- how many bytes a line may have
unfoldable pub line_limit : ℕ
line_limit = 2 ^ 22

-- what is kept of a line: one byte more than it may have tells that it is too long
abbrev pub clip : List ℕ → List ℕ
clip line = take (line_limit + 1) line

-- a byte onto the first line
abbrev pub onto_first : ℕ → List (List ℕ) → List (List ℕ)
onto_first b [] = (b ∷ []) ∷ []
onto_first b (line ∷ lines) = (b ∷ line) ∷ lines

unfoldable pub lines_of : List ℕ → List (List ℕ)
lines_of [] = []
lines_of (b ∷ bytes) = if b == 10 then [] ∷ lines_of bytes else onto_first b (lines_of bytes)

abbrev pub HasNoNewline : List ℕ → Type 0
HasNoNewline [] = Unit {0}
HasNoNewline (b ∷ bytes) = (b ≢ 10) × HasNoNewline bytes

abbrev pub has_newline : List ℕ → Bool
has_newline bytes = list_any (λ b. b == 10) bytes

-- the bytes up to and with the last newline
unfoldable pub to_last_newline : List ℕ → List ℕ
to_last_newline [] = []
to_last_newline (b ∷ bytes) = if has_newline (b ∷ bytes) then b ∷ to_last_newline bytes else []

-- what is answered of the bytes that were taken: all of them once the end was met, else the whole lines
abbrev pub answerable : Bool → List ℕ → List ℕ
answerable true taken = taken
answerable false taken = to_last_newline taken
