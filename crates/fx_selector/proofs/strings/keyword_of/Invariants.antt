use Rattle.std.proofs.Common.{◌≡◌, ◌≤◌, length}
use Rattle.fx_selector.specs.Reading.{keyword}
use Rattle.fx_selector.proofs.strings.keyword_of.Given as goal

abbrev pub invariant-loop-b : goal.invariant-loop-b
invariant-loop-b l = (keyword l.left l.after ≡ keyword l.fn.bytes l.fn.rest) × (length l.after ≤ length l.fn.rest)

abbrev pub decreases-loop-b : goal.decreases-loop-b
decreases-loop-b l = length l.left
