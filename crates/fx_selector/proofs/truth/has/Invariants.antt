use Rattle.std.proofs.Common.{◌≡◌, length}
use Rattle.fx_selector.specs.Truth.{has_part}
use Rattle.fx_selector.proofs.truth.has.Given as goal

abbrev pub invariant-loop-more : goal.invariant-loop-more
invariant-loop-more l = has_part l.part l.rest ≡ has_part l.part l.fn.text

abbrev pub decreases-loop-more : goal.decreases-loop-more
decreases-loop-more l = length l.rest
