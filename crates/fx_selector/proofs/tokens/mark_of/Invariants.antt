use Rattle.std.proofs.Common.{◌≡◌, ◌≤◌, ◌+◌, length}
use Rattle.fx_selector.specs.Reading.{mark}
use Rattle.fx_selector.proofs.tokens.mark_of.Given as goal

abbrev pub invariant-loop-b : goal.invariant-loop-b
invariant-loop-b l = (mark l.left l.after ≡ mark l.fn.bytes l.fn.rest) × (length l.after + length l.fn.bytes ≤ length l.fn.rest + length l.left)

abbrev pub decreases-loop-b : goal.decreases-loop-b
decreases-loop-b l = length l.left
