use Rattle.std.proofs.Common.{◌≡◌, Option, Result, Ok, Err, IfOk, sym, ◌∙◌, ap, subst}
use Rattle.std.specs.Prelude.{OnOk}
use Rattle.std.proofs.lemmas.Result.{err_from_is_err_and, IfOk-at_ok}
use Rattle.fx_fields.specs.declared.refusal.Refusal.{Refusal}
use Rattle.fx_program.specs.Answers.{accepted_text, refusal_in, settled}
use Rattle.fx_run.specs.Writing.{Writes}
use Rattle.fx_run.proofs.Writings.{Writes-none, Writes-nothing}
use Rattle.fx_service_lines.specs.declared.command.ServicesCommand.{ServicesCommand}
use Rattle.fx_service_lines.specs.Commands.{command_of}
use Rattle.fx_service_lines.specs.Formed.{IsReadServices}
use Rattle.felix_services.specs.Output.{State, accepted, checked, command_text}
use Rattle.felix_services.specs.Standing.{state_of}
use Rattle.felix_services.proofs.services.ServicesProgram.answer.Goals as goal

pub returns-in_err-said-clause-writes : goal.returns-in_err-said-clause-writes
returns-in_err-said-clause-writes g c =
    let p = err_from_is_err_and c.from_residual.result c.from_residual.ensures.1 in
    rw (p.1, p.2) (Writes-nothing (g.K.Sink.state c.args.sink.now) _)

-- a command

pub follow-requires-clause-read : goal.follow-requires-clause-read
follow-requires-clause-read g c = IfOk-at_ok IsReadServices c.in-Ok.is c.in_ok-said.ensures.read

pub returns-in-Ok-clause-state : goal.returns-in-Ok-clause-state
returns-in-Ok-clause-state g c =
    let dg = g.R.DigestRule.digest_of in
    let was = c.args.self.now in
    let now = c.follow.new.self in
    let s : State = state_of dg was.replay.agent was.places in
    let said : command_of c.args.line.now ≡ Ok c.in-Ok.command = sym c.in_ok-said.ensures.answer ∙ c.in-Ok.is in
    subst (λ (a : Result ServicesCommand Refusal). OnOk c.follow.result (state_of dg now.replay.agent now.places ≡ settled accepted s (checked dg was.replay.agent.resources a)))
    (sym said) c.follow.ensures.state

pub returns-in-Ok-clause-refused : goal.returns-in-Ok-clause-refused
returns-in-Ok-clause-refused g c =
    let said : command_of c.args.line.now ≡ Ok c.in-Ok.command = sym c.in_ok-said.ensures.answer ∙ c.in-Ok.is in
    subst (λ (a : Result ServicesCommand Refusal). IfOk c.follow.result (λ refusal. refusal ≡ refusal_in (checked g.R.DigestRule.digest_of c.args.self.now.replay.agent.resources a)))
    (sym said) c.follow.ensures.refused

pub returns-in-Ok-clause-writes : goal.returns-in-Ok-clause-writes
returns-in-Ok-clause-writes g c =
    let dg = g.R.DigestRule.digest_of in
    let was = c.args.self.now in
    let s : State = state_of dg was.replay.agent was.places in
    let said : command_of c.args.line.now ≡ Ok c.in-Ok.command = sym c.in_ok-said.ensures.answer ∙ c.in-Ok.is in
    subst (λ (a : Result ServicesCommand Refusal). Writes {T = Option Refusal} (g.K.Sink.state c.args.sink.now) (g.K.Sink.state c.follow.new.sink) (accepted_text command_text s (checked dg was.replay.agent.resources a)) c.follow.result)
    (sym said) c.follow.ensures.writes

-- a refusal

pub returns-in-Err-clause-state : goal.returns-in-Err-clause-state
returns-in-Err-clause-state g c =
    let dg = g.R.DigestRule.digest_of in
    let was = c.args.self.now in
    let s : State = state_of dg was.replay.agent was.places in
    let said : command_of c.args.line.now ≡ Err c.in-Err.refusal = sym c.in_ok-said.ensures.answer ∙ c.in-Err.is in
    sym (ap (λ (a : Result ServicesCommand Refusal). settled accepted s (checked dg was.replay.agent.resources a)) said)

pub returns-in-Err-clause-refused : goal.returns-in-Err-clause-refused
returns-in-Err-clause-refused g c =
    let said : command_of c.args.line.now ≡ Err c.in-Err.refusal = sym c.in_ok-said.ensures.answer ∙ c.in-Err.is in
    sym (ap (λ (a : Result ServicesCommand Refusal). refusal_in (checked g.R.DigestRule.digest_of c.args.self.now.replay.agent.resources a)) said)

pub returns-in-Err-clause-writes : goal.returns-in-Err-clause-writes
returns-in-Err-clause-writes g c =
    let dg = g.R.DigestRule.digest_of in
    let was = c.args.self.now in
    let s : State = state_of dg was.replay.agent was.places in
    let said : command_of c.args.line.now ≡ Err c.in-Err.refusal = sym c.in_ok-said.ensures.answer ∙ c.in-Err.is in
    Writes-none (g.K.Sink.state c.args.sink.now) _ _ (ap (λ (a : Result ServicesCommand Refusal). accepted_text command_text s (checked dg was.replay.agent.resources a)) said)
