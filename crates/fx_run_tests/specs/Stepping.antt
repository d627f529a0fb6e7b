-- One step of a numbering: the laws of its machine.
use Rattle.std.specs.Prelude.{◌≡◌, ℕ, List, [], ◌∷◌, ◌+◌, Bool, true, false, refl}
use Rattle.std.proofs.Common.{ap}
use Rattle.fx_lines.specs.Lines.{line_limit, clip}
use Rattle.fx_run_tests.specs.Numbers.{State, leads_with_x, settled, counted, number_line, next, text}

settled-lines : (s : State) (b : Bool) → (settled s b).lines ≡ s.lines
settled-lines s true = refl
settled-lines s false = refl

-- each line is counted
pub next-lines : (s : State) (line : List ℕ) → (next s line).lines ≡ s.lines + 1
next-lines s line = settled-lines (counted s) (leads_with_x line)

-- what is kept of a line begins as the line
leads_with_x-clip : (line : List ℕ) → leads_with_x (clip line) ≡ leads_with_x line
unfolding line_limit
leads_with_x-clip [] = refl
leads_with_x-clip (b ∷ line) = refl

-- and does what the line does
pub next-clip : (s : State) (line : List ℕ) → (next s (clip line) ≡ next s line) × (text s (clip line) ≡ text s line)
next-clip s line = (ap (settled (counted s)) (leads_with_x-clip line), ap (number_line (s.lines + 1)) (leads_with_x-clip line))
