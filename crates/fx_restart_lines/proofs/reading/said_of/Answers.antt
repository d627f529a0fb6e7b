use Rattle.std.proofs.Common.{◌≡◌, Bool, cond, IfOk, subst}
use Rattle.fx_lines.specs.Commands.{value_in}
use Rattle.fx_restart_lines.specs.Reading.{first_of, later_of, lined, said_of}
use Rattle.fx_restart_lines.proofs.reading.said_of.Goals as goal

pub returns-then-is_awaited-clause-answer : goal.returns-then-is_awaited-clause-answer
unfolding said_of
returns-then-is_awaited-clause-answer c =
    let value = value_in c.args.line.now in
    let P : Bool → Type 0 = λ b. IfOk c.first_said.result (λ said. said ≡ cond b (first_of value) (lined (later_of value))) in
    subst P c.if-is_awaited.ensures c.first_said.ensures.answer

pub returns-clause-answer : goal.returns-clause-answer
unfolding said_of
returns-clause-answer c =
    let value = value_in c.args.line.now in
    let P : Bool → Type 0 = λ b. IfOk c.later_said.result (λ said. said ≡ cond b (first_of value) (lined (later_of value))) in
    subst P c.if-is_awaited.ensures c.later_said.ensures.answer
