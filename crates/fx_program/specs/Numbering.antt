-- One step of the numbered lines of a program: the laws of its machine.
use Rattle.std.specs.Prelude.{◌≡◌, ◌+◌, ◌++◌, ℕ, List}
use Rattle.fx_lines.specs.Lines.{clip}
use Rattle.fx_program.specs.Meanings.{Meaning, Numbered, IsSameLine, line_text, next, numbered, refusal_text, refused_by}

-- what is kept of a line does what the line does
pub next-clip : {A S R : Type 0} (m : Meaning A S R) → ((s : S) (line : List ℕ) → IsSameLine m s (clip line) line)
    → (s : Numbered S) (line : List ℕ) → (next m s (clip line) ≡ next m s line) × (line_text m s (clip line) ≡ line_text m s line)
next-clip m clipped s line =
    let same = clipped s.kept line in (
      (λ j. numbered (same.behind j) (s.lines + 1) (refused_by s.refused (same.refusal j))),
      (λ j. same.text j ++ refusal_text m (s.lines + 1) (same.refusal j)),
    )
