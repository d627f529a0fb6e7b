use Rattle.std.proofs.Common.{length}
use Rattle.fx_found.proofs.Parts.{IsHalfRule}
use Rattle.fx_found.proofs.rules.rule_read.Given as goal

abbrev pub invariant-parts : goal.invariant-parts
invariant-parts l = IsHalfRule l.matches.items l.later l.fn.text

abbrev pub decreases-parts : goal.decreases-parts
decreases-parts l = length l.later
