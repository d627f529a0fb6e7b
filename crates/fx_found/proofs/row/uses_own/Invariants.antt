use Rattle.std.proofs.Common.{◌≡◌, length}
use Rattle.fx_found.specs.Rows.{uses_own}
use Rattle.fx_found.proofs.row.uses_own.Given as goal

abbrev pub invariant-words : goal.invariant-words
invariant-words l = uses_own l.later ≡ uses_own l.fn.text

abbrev pub decreases-words : goal.decreases-words
decreases-words l = length l.later
