use Rattle.std.proofs.Common.{◌≡◌, Option, Some, Result, Ok, Err, refl, sym, ◌∙◌, subst}
use Rattle.std.proofs.lemmas.Result.{err_from_is_err_and}
use Rattle.fx_fields.specs.declared.refusal.Refusal.{Refusal}
use Rattle.fx_program.specs.Answers.{accepted_text}
use Rattle.fx_run.specs.Writing.{Writes}
use Rattle.fx_run.proofs.Writings.{Writes-none, Writes-nothing}
use Rattle.fx_host_lines.specs.declared.command.HostCommand.{HostCommand}
use Rattle.fx_host_lines.specs.Commands.{command_of}
use Rattle.felix_host.specs.Output.{State, checked, command_text}
use Rattle.felix_host.specs.Standing.{state_of}
use Rattle.felix_host.proofs.host.HostProgram.answer.Goals as goal

pub returns-in_err-said-clause-writes : goal.returns-in_err-said-clause-writes
returns-in_err-said-clause-writes g c =
    let p = err_from_is_err_and c.from_residual.result c.from_residual.ensures.1 in
    rw (p.1, p.2) (Writes-nothing (g.K.Sink.state c.args.sink.now) _)

pub follow-requires-clause-read : goal.follow-requires-clause-read
follow-requires-clause-read g c = rw c.in-Ok.is at c.in_ok-said.ensures.read

pub returns-in-Ok-clause-writes : goal.returns-in-Ok-clause-writes
returns-in-Ok-clause-writes g c =
    let dg = g.R.DigestRule.digest_of in
    let was = c.args.self.now in
    let R = was.node.engine.resources in
    let s : State = state_of dg R was.failsafe was.tables in
    let said : Ok c.in-Ok.command ≡ command_of c.args.line.now = sym c.in-Ok.is ∙ c.in_ok-said.ensures.answer in
    subst (λ (a : Result HostCommand Refusal). Writes {T = Option Refusal} (g.K.Sink.state c.args.sink.now) (g.K.Sink.state c.follow.new.sink) (accepted_text command_text s (checked dg R a)) c.follow.result)
    said c.follow.ensures.writes

pub returns-in-Err-clause-writes : goal.returns-in-Err-clause-writes
returns-in-Err-clause-writes g c =
    let dg = g.R.DigestRule.digest_of in
    let was = c.args.self.now in
    let R = was.node.engine.resources in
    let s : State = state_of dg R was.failsafe was.tables in
    let sink = g.K.Sink.state c.args.sink.now in
    let said : Err c.in-Err.refusal ≡ command_of c.args.line.now = sym c.in-Err.is ∙ c.in_ok-said.ensures.answer in
    subst (λ (a : Result HostCommand Refusal). Writes {T = Option Refusal} sink sink (accepted_text command_text s (checked dg R a)) (Ok (Some c.in-Err.refusal)))
    said (Writes-none sink _ _ refl)
