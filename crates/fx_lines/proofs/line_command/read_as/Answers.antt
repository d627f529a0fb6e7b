use Rattle.std.proofs.Common.{Option, Some, None, Ok, subst}
use Rattle.std.proofs.lemmas.Result.{err_from_is_err_and}
use Rattle.serde_json.specs.declared.value.Value.{Value}
use Rattle.serde_json.specs.View.{view}
use Rattle.fx_fields.specs.Refusals.{Refuses}
use Rattle.fx_lines.specs.Commands.{viewed, value_in}
use Rattle.fx_lines.proofs.Asking.{command_by-answered, command_by-blank, command_by-refused}
use Rattle.fx_lines.proofs.line_command.read_as.Goals as goal

pub returns-in_err-value-clause-answer : goal.returns-in_err-value-clause-answer
returns-in_err-value-clause-answer g c =
    let l = g.C.LineCommand in
    let told = err_from_is_err_and c.from_residual.result c.from_residual.ensures.1 in
    rw (told.1, told.2) (command_by-refused l.nothing l.by_name c.args.line.now _ c.in_err-value.ensures)

pub returns-in-Some-clause-answer : goal.returns-in-Some-clause-answer
returns-in-Some-clause-answer g c =
    let l = g.C.LineCommand in
    let P : Option Value → Type 0 = λ o. Refuses (value_in c.args.line.now) (viewed (Ok o)) in
    command_by-answered l.nothing l.by_name c.args.line.now (view c.in-Some.value) c.read_member.result
    (subst P c.in-Some.is c.in_ok-value.ensures) c.read_member.ensures.answer

pub returns-in-None-clause-answer : goal.returns-in-None-clause-answer
returns-in-None-clause-answer g c =
    let l = g.C.LineCommand in
    let P : Option Value → Type 0 = λ o. Refuses (value_in c.args.line.now) (viewed (Ok o)) in
    command_by-blank l.nothing l.by_name c.args.line.now c.blank.result c.blank.ensures.nothing (subst P c.in-None.is c.in_ok-value.ensures)
