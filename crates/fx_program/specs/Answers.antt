-- Programs whose lines ask for commands: an accepted one does and writes what it says, and a refused line does nothing.
use Rattle.std.specs.Prelude.{◌≡◌, ℕ, List, [], Option, Some, None, Result, Ok, Err}
use Rattle.std.proofs.Common.{ap}
use Rattle.fx_program.specs.Meanings.{Meaning, IsSameLine}

-- what a command does, where it is accepted
abbrev pub settled : {S C R : Type 0} → (S → C → S) → S → Result C R → S
settled accepted s (Ok c) = accepted s c
settled accepted s (Err r) = s

-- why it is refused
abbrev pub refusal_in : {C R : Type 0} → Result C R → Option R
refusal_in (Ok c) = None
refusal_in (Err r) = Some r

-- what it writes, where it is accepted
abbrev pub accepted_text : {S C R : Type 0} → (S → C → List ℕ) → S → Result C R → List ℕ
accepted_text text s (Ok c) = text s c
accepted_text text s (Err r) = []

-- a line's answer is its command or its refusal, by what stands; nothing is written behind the last line
abbrev pub by_answers : {A S C R : Type 0} → List ℕ → (A → S) → (S → List ℕ → Result C R) → (S → C → S) → (S → C → List ℕ) → (ℕ → R → List ℕ) → Meaning A S R
by_answers usage start answer accepted text refused_line = record {
  usage = usage;
  start = start;
  behind = λ s line. settled accepted s (answer s line);
  refusal = λ s line. refusal_in (answer s line);
  text = λ s line. accepted_text text s (answer s line);
  refused_line = refused_line;
  closing = λ s. [];
  Closed = λ s. Unit {0};
}

-- two lines with one answer do and write the same
pub same_line : {A S C R : Type 0} (usage : List ℕ) (start : A → S) (answer : S → List ℕ → Result C R) (accepted : S → C → S) (text : S → C → List ℕ) (refused_line : ℕ → R → List ℕ)
    (s : S) (line other : List ℕ) → answer s line ≡ answer s other → IsSameLine (by_answers usage start answer accepted text refused_line) s line other
same_line usage start answer accepted text refused_line s line other is = record {
  behind = ap (settled accepted s) is;
  refusal = ap refusal_in is;
  text = ap (accepted_text text s) is;
}
