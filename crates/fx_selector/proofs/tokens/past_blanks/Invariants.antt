use Rattle.std.proofs.Common.{◌≡◌, ◌≤◌, length}
use Rattle.fx_selector.specs.Reading.{skip}
use Rattle.fx_selector.proofs.tokens.past_blanks.Given as goal

abbrev pub invariant-loop-c : goal.invariant-loop-c
invariant-loop-c l = (skip l.after ≡ skip l.fn.rest) × (length l.after ≤ length l.fn.rest)

abbrev pub decreases-loop-c : goal.decreases-loop-c
decreases-loop-c l = length l.after
