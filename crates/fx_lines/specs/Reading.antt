-- How a reader of lines goes through a source.
use Rattle.std.specs.Prelude.{◌≡◌, ◌⊎◌, ◌<◌, ◌^◌, ℕ, List, [], ◌∷◌, ◌++◌, length, Bool, true, false, Option, Some, None}
use Rattle.fx_base.specs.Streams.{SourceState, Gives, Rose}
use Rattle.fx_lines.specs.Lines.{lines_of, to_last_newline, HasNoNewline}

-- the line, where one was found
abbrev pub line_if : Bool → List ℕ → Option (List ℕ)
line_if true line = Some line
line_if false line = None

-- A reader held bytes, took a piece, and found a line or the end; now it holds what follows.
abbrev pub IsNext : List ℕ → List ℕ → Option (List ℕ) → List ℕ → Bool → Type 0
IsNext held piece None now ended = (held ++ piece ≡ []) × (now ≡ []) × (ended ≡ true)
IsNext held piece (Some line) now ended = HasNoNewline line × ((held ++ piece ≡ line ++ 10 ∷ now) ⊎ ((held ++ piece ≡ line) × (0 < length line) × (now ≡ []) × (ended ≡ true)))

-- whole lines at the beginning of any bytes
pub record AreLines (prefix : List ℕ) (lines : List (List ℕ)) : Type 0 where
  pub goes : (more : List ℕ) → lines_of (prefix ++ more) ≡ lines ++ lines_of more
  pub whole : (more : List ℕ) → to_last_newline (prefix ++ more) ≡ prefix ++ to_last_newline more

-- What was taken is cut into these lines, up to what is held: a prefix that is whole lines, or all of it.
pub record IsCutIntoLines (taken held : List ℕ) (ended : Bool) (lines : List (List ℕ)) : Type 0 where
  pub prefix : List ℕ
  pub whole : taken ≡ prefix ++ held
  pub cut : AreLines prefix lines ⊎ ((lines_of prefix ≡ lines) × (held ≡ []) × (ended ≡ true))

-- a read failed, with the end unmet and below the limit
pub record HasFailedRead (before now : SourceState) : Type 0 where
  pub rose : Rose before.faults now.faults
  pub unended : now.ended ≡ false
  pub below : now.given < 2 ^ 32

-- the limit was reached, with the end unmet
pub record IsTooLong (now : SourceState) : Type 0 where
  pub limit : now.given ≡ 2 ^ 32
  pub unended : now.ended ≡ false

-- since a moment the source gave bytes that are cut into these lines
pub record HasRead (before now : SourceState) (held : List ℕ) (ended : Bool) (lines : List (List ℕ)) : Type 0 where
  pub taken : List ℕ
  pub gives : Gives before now taken
  pub cut : IsCutIntoLines taken held ended lines
