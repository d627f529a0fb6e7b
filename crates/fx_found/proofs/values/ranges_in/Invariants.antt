use Rattle.std.proofs.Common.{length}
use Rattle.fx_found.proofs.Ranges.{IsHalfRead}
use Rattle.fx_found.proofs.values.ranges_in.Given as goal

abbrev pub invariant-pieces : goal.invariant-pieces
invariant-pieces l = IsHalfRead l.ranges.items l.later l.fn.text

abbrev pub decreases-pieces : goal.decreases-pieces
decreases-pieces l = length l.later
