use Rattle.std.proofs.Common.{sym, ◌∙◌, arith}
use Rattle.fx_lines.proofs.lines.LineReader.fill.Goals as goal

-- a read that fails leaves the end as it was
pub returns-in_default-clause-ended : goal.returns-in_default-clause-ended
returns-in_default-clause-ended g c = c.in_default.ensures.err.end ∙ (c.requires.ended ∙ sym c.compact.ensures.same.1)

pub invariant_of-self-2-clause-line_in_range : goal.invariant_of-self-2-clause-line_in_range
invariant_of-self-2-clause-line_in_range g c = omega (arith, c.compact.ensures.start.0)
