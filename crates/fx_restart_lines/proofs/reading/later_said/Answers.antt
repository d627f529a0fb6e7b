use Rattle.std.proofs.Common.{◌≡◌, ℕ, List, refl, sym, ◌∙◌, ap}
use Rattle.fx_lines.specs.Commands.{command_by, value_in}
use Rattle.fx_lines.proofs.Asking.{command_by-at}
use Rattle.fx_restart_lines.specs.declared.command.RestoreCommand.TheVariants as command
use Rattle.fx_restart_lines.specs.Reading.{change_answer, later_of, lined}
use Rattle.fx_restart_lines.proofs.reading.later_said.Goals as goal

-- the command of a line is that of its value
by_its_value : (line : List ℕ) → command_by command.Blank change_answer line ≡ later_of (value_in line)
by_its_value line = command_by-at command.Blank change_answer line (value_in line) refl

pub returns-in-Ok-clause-answer : goal.returns-in-Ok-clause-answer
returns-in-Ok-clause-answer c = ap lined (sym c.in-Ok.is ∙ c.in_ok-said.ensures.answer ∙ by_its_value c.args.line.now)

pub returns-in-Err-clause-answer : goal.returns-in-Err-clause-answer
returns-in-Err-clause-answer c = ap lined (sym c.in-Err.is ∙ c.in_ok-said.ensures.answer ∙ by_its_value c.args.line.now)
