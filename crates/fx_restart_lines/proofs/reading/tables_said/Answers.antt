use Rattle.std.proofs.Common.{sym, ap}
use Rattle.fx_found.specs.Found.{found_of}
use Rattle.fx_restart_lines.specs.Reading.{tables_answer}
use Rattle.fx_restart_lines.proofs.ReadingLemmas.{refused_rows}
use Rattle.fx_restart_lines.proofs.reading.tables_said.Goals as goal

pub returns-in-Ok-clause-answer : goal.returns-in-Ok-clause-answer
returns-in-Ok-clause-answer c = sym (ap tables_answer c.in-Ok.ensures.ok)

pub returns-else-is_memory-clause-answer : goal.returns-else-is_memory-clause-answer
returns-else-is_memory-clause-answer c =
    sym (ap tables_answer (refused_rows (found_of c.args.rows.now) c.in-Err.fault (sym c.if-is_memory.ensures) c.in-Err.ensures.fault))
