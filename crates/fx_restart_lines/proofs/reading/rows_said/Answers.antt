use Rattle.std.proofs.Common.{◌≡◌, ℕ, List, Option, Some, None, IfOk, sym, ap, ◌∙◌, subst}
use Rattle.serde_json.specs.View.{view}
use Rattle.fx_found.specs.Found.{found_of}
use Rattle.fx_restart_lines.specs.Reading.{rows_of, rows_answer, tables_answer}
use Rattle.fx_restart_lines.proofs.reading.rows_said.Goals as goal

pub returns-in-Some-clause-answer : goal.returns-in-Some-clause-answer
returns-in-Some-clause-answer c =
    let is : rows_of (view c.args.listed.now) ≡ Some c.in-Some.rows = sym c.in_ok-rows.ensures ∙ c.in-Some.is in
    let P : Option (List (List ℕ)) → Type 0 = λ o. IfOk c.tables_said.result (λ said. said ≡ rows_answer o) in
    let Q : List (List ℕ) → Type 0 = λ rows. IfOk c.tables_said.result (λ said. said ≡ tables_answer (found_of rows)) in
    subst P (sym is) (subst Q c.as_slice.ensures c.tables_said.ensures.answer)

pub returns-in-None-clause-answer : goal.returns-in-None-clause-answer
returns-in-None-clause-answer c =
    let is : rows_of (view c.args.listed.now) ≡ None = sym c.in_ok-rows.ensures ∙ c.in-None.is in
    sym (ap rows_answer is)
