use Rattle.std.proofs.Common.{◌≡◌, Option, Result, Err, IfOk, sym, ap, ◌∙◌, subst}
use Rattle.serde_json.specs.Data.{Data}
use Rattle.fx_fields.specs.declared.refusal.Refusal.{Refusal}
use Rattle.fx_lines.specs.Commands.{value_in}
use Rattle.fx_lines.proofs.Asking.{refused_as_defined}
use Rattle.fx_restart_lines.specs.declared.command.RestoreCommand.{RestoreCommand}
use Rattle.fx_restart_lines.specs.declared.refusal.RestoreRefusal.{RestoreRefusal}
use Rattle.fx_restart_lines.specs.Reading.{first_of}
use Rattle.fx_restart_lines.proofs.ReadingLemmas.{read_value}
use Rattle.fx_restart_lines.proofs.reading.first_said.Goals as goal

pub returns-in-Ok-clause-answer : goal.returns-in-Ok-clause-answer
returns-in-Ok-clause-answer c =
    let P : Result (Option Data) Refusal → Type 0 = λ v. IfOk c.first_value.result (λ said. said ≡ first_of v) in
    subst P (sym (read_value (value_in c.args.line.now) c.in-Ok.value c.in-Ok.ensures)) c.first_value.ensures.answer

pub returns-else-is_memory-clause-answer : goal.returns-else-is_memory-clause-answer
returns-else-is_memory-clause-answer c =
    let P : RestoreRefusal → Result RestoreCommand RestoreRefusal = λ r. Err r in
    ap P c.missing_or.ensures ∙ sym (ap first_of (refused_as_defined (value_in c.args.line.now) c.in-Err.refusal (sym c.if-is_memory.ensures) c.in-Err.ensures))
