-- What a program over lines means: what it begins with, what each line does and writes, and what its end writes. Lines
-- are numbered from 1 on.
use Rattle.std.specs.Prelude.{◌≡◌, ◌+◌, ℕ, List, [], ◌++◌, Bool, true, false, Option, Some, None}
use Rattle.fx_lines.specs.Lines.{answerable}
use Rattle.fx_run.specs.Ran as runs

-- over what is asked, what stands between two lines, and why a line is refused
pub record Meaning (A S R : Type 0) : Type 1 where
  -- what is told where the words aren't in the grammar
  pub usage : List ℕ
  -- the state before the first line
  pub start : A → S
  -- the state behind a line, why it is refused, if it is, and what it writes beside its refusal
  pub behind : S → List ℕ → S
  pub refusal : S → List ℕ → Option R
  pub text : S → List ℕ → List ℕ
  -- what tells that the line with a number is refused
  pub refused_line : ℕ → R → List ℕ
  -- what is written behind the last line
  pub closing : S → List ℕ
  -- what holds of the state behind the last line once the closing text was written
  pub Closed : S → Type 0

-- ---- a line and its number

-- what stands between two lines, how many lines there were, and whether one was refused
pub record Numbered (S : Type 0) : Type 0 where
  pub kept : S
  pub lines : ℕ
  pub refused : Bool

abbrev pub numbered : {S : Type 0} → S → ℕ → Bool → Numbered S
numbered kept lines refused = record { kept = kept; lines = lines; refused = refused }

-- before the first line
abbrev pub unanswered : {S : Type 0} → S → Numbered S
unanswered first = numbered first 0 false

-- once a line was refused, that stays
abbrev pub refused_by : {R : Type 0} → Bool → Option R → Bool
refused_by before None = before
refused_by before (Some r) = true

abbrev pub next : {A S R : Type 0} → Meaning A S R → Numbered S → List ℕ → Numbered S
next m s line = numbered (m.behind s.kept line) (s.lines + 1) (refused_by s.refused (m.refusal s.kept line))

abbrev pub refusal_text : {A S R : Type 0} → Meaning A S R → ℕ → Option R → List ℕ
refusal_text m number None = []
refusal_text m number (Some r) = m.refused_line number r

-- what a line writes, and its refusal
abbrev pub line_text : {A S R : Type 0} → Meaning A S R → Numbered S → List ℕ → List ℕ
line_text m s line = m.text s.kept line ++ refusal_text m (s.lines + 1) (m.refusal s.kept line)

-- two lines do and write the same
pub record IsSameLine {A S R : Type 0} (m : Meaning A S R) (s : S) (line other : List ℕ) : Type 0 where
  pub behind : m.behind s line ≡ m.behind s other
  pub refusal : m.refusal s line ≡ m.refusal s other
  pub text : m.text s line ≡ m.text s other

-- ---- a whole input

-- behind the lines of these bytes
abbrev pub end_of : {A S R : Type 0} → Meaning A S R → S → List ℕ → Numbered S
end_of m first bytes = runs.end_of (next m) (unanswered first) bytes

-- what its lines write
abbrev pub lines_text : {A S R : Type 0} → Meaning A S R → S → List ℕ → List ℕ
lines_text m first bytes = runs.output_of (next m) (line_text m) (unanswered first) bytes

-- what these bytes write from a state on
abbrev pub output_of : {A S R : Type 0} → Meaning A S R → S → List ℕ → List ℕ
output_of m first bytes = lines_text m first bytes ++ m.closing (end_of m first bytes).kept

-- whether a line of these is refused
abbrev pub is_refused : {A S R : Type 0} → Meaning A S R → S → List ℕ → Bool
is_refused m first bytes = (end_of m first bytes).refused

-- what a run may have written that ended early: the closing text belongs to a whole input alone
abbrev pub open_output : {A S R : Type 0} → Meaning A S R → S → Bool → List ℕ → List ℕ
open_output m first true taken = output_of m first taken
open_output m first false taken = lines_text m first (answerable false taken)
