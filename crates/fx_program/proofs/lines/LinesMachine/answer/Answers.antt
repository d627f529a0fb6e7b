use Rattle.std.proofs.Common.{sym, subst, ◌∙◌, ◌+◌}
use Rattle.std.proofs.lemmas.Result.{err_from_is_err_and}
use Rattle.fx_run.specs.Writing.{Writes}
use Rattle.fx_run.proofs.Writings.{Writes-prefix, Writes-then}
use Rattle.fx_program.specs.Meanings.{refusal_text}
use Rattle.fx_program.proofs.lines.LinesMachine.answer.Goals as goal

-- the line's own text stopped
pub returns-in_err-refusal-clause-writes : goal.returns-in_err-refusal-clause-writes
returns-in_err-refusal-clause-writes g c =
    let p = err_from_is_err_and c.from_residual.result c.from_residual.ensures.1 in
    let m = g.P.Program.meaning in
    let was = c.args.self.now in
    let s = g.P.Program.state was.program in
    let line = c.args.line.now in
    let wrote = c.in_err-refusal.ensures.writes in
    rw (p.1, p.2) (Writes-prefix (g.K.Sink.state c.args.sink.now) (g.K.Sink.state c.answer.new.sink) (m.text s line) (refusal_text m (was.lines + 1) (m.refusal s line)) _ wrote.prefix wrote.later wrote.cause)

-- it was written whole, and then the refusal was or wasn't
pub returns-in-Some-clause-writes : goal.returns-in-Some-clause-writes
returns-in-Some-clause-writes g c =
    let m = g.P.Program.meaning in
    let was = c.args.self.now in
    let s = g.P.Program.state was.program in
    let line = c.args.line.now in
    let wrote = c.in_ok-refusal.ensures.writes in
    let told = sym c.in_ok-refusal.ensures.refused ∙ c.in-Some.is in
    Writes-then (g.K.Sink.state c.args.sink.now) (g.K.Sink.state c.answer.new.sink) (g.K.Sink.state c.refuse.new.sink) (m.text s line) (refusal_text m (was.lines + 1) (m.refusal s line)) _ wrote.whole wrote.later
    (subst (λ o. Writes (g.K.Sink.state c.answer.new.sink) (g.K.Sink.state c.refuse.new.sink) (refusal_text m (was.lines + 1) o) c.refuse.result) (sym told) c.refuse.ensures.writes)
