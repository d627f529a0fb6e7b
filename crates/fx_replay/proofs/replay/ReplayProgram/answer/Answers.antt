use Rattle.std.proofs.Common.{◌≡◌, Option, Result, Ok, Err, sym, ◌∙◌, ap, subst}
use Rattle.std.specs.Prelude.{OnOk, IfOk}
use Rattle.std.proofs.lemmas.Result.{err_from_is_err_and, IfOk-at_ok}
use Rattle.fx_base.proofs.TickLemmas.{IsTicked-none}
use Rattle.fx_fields.specs.declared.refusal.Refusal.{Refusal}
use Rattle.fx_lines.specs.declared.commands.Command.{Command}
use Rattle.fx_lines.specs.Commands.{command_of}
use Rattle.fx_lines.specs.Formed.{IsReadCommand}
use Rattle.fx_program.specs.Answers.{accepted_text, refusal_in, settled}
use Rattle.fx_replay.specs.Output.{State, accepted, checked, command_text, flushed_in}
use Rattle.fx_replay.specs.Standing.{state_of}
use Rattle.fx_replay.specs.Tallies.{tally_after}
use Rattle.fx_replay.specs.Tests.{HasTested}
use Rattle.fx_run.specs.Writing.{Writes}
use Rattle.fx_run.proofs.Writings.{Writes-none, Writes-nothing}
use Rattle.fx_replay.proofs.replay.ReplayProgram.answer.Goals as goal

pub returns-in_err-said-clause-writes : goal.returns-in_err-said-clause-writes
returns-in_err-said-clause-writes g c =
    let p = err_from_is_err_and c.from_residual.result c.from_residual.ensures.1 in
    rw (p.1, p.2) (Writes-nothing (g.K.Sink.state c.args.sink.now) _)

-- ---- a command

pub follow-requires-clause-read : goal.follow-requires-clause-read
follow-requires-clause-read g c = IfOk-at_ok IsReadCommand c.in-Ok.is c.in_ok-said.ensures.read

pub returns-in-Ok-clause-state : goal.returns-in-Ok-clause-state
returns-in-Ok-clause-state g c =
    let dg = g.R.DigestRule.digest_of in
    let was = c.args.self.now in
    let s : State = state_of dg was.agent in
    let said : command_of c.args.line.now ≡ Ok c.in-Ok.command = sym c.in_ok-said.ensures.answer ∙ c.in-Ok.is in
    subst (λ (a : Result Command Refusal). OnOk c.follow.result (state_of dg c.follow.new.self.agent ≡ settled accepted s (checked dg was.agent.resources a)))
    (sym said) c.follow.ensures.state

pub returns-in-Ok-clause-refused : goal.returns-in-Ok-clause-refused
returns-in-Ok-clause-refused g c =
    let said : command_of c.args.line.now ≡ Ok c.in-Ok.command = sym c.in_ok-said.ensures.answer ∙ c.in-Ok.is in
    subst (λ (a : Result Command Refusal). IfOk c.follow.result (λ refusal. refusal ≡ refusal_in (checked g.R.DigestRule.digest_of c.args.self.now.agent.resources a)))
    (sym said) c.follow.ensures.refused

pub returns-in-Ok-clause-tally : goal.returns-in-Ok-clause-tally
returns-in-Ok-clause-tally g c =
    let dg = g.R.DigestRule.digest_of in
    let was = c.args.self.now in
    let s : State = state_of dg was.agent in
    let said : command_of c.args.line.now ≡ Ok c.in-Ok.command = sym c.in_ok-said.ensures.answer ∙ c.in-Ok.is in
    subst (λ (a : Result Command Refusal). OnOk c.follow.result (c.follow.new.self.tally ≡ tally_after was.tally (flushed_in s (checked dg was.agent.resources a))))
    (sym said) c.follow.ensures.tally

pub returns-in-Ok-clause-tests : goal.returns-in-Ok-clause-tests
returns-in-Ok-clause-tests g c =
    let dg = g.R.DigestRule.digest_of in
    let was = c.args.self.now in
    let said : command_of c.args.line.now ≡ Ok c.in-Ok.command = sym c.in_ok-said.ensures.answer ∙ c.in-Ok.is in
    subst (λ (a : Result Command Refusal). OnOk c.follow.result (HasTested was.agent.resources (checked dg was.agent.resources a) was.ticks c.follow.new.self.ticks))
    (sym said) c.follow.ensures.tests

pub returns-in-Ok-clause-writes : goal.returns-in-Ok-clause-writes
returns-in-Ok-clause-writes g c =
    let dg = g.R.DigestRule.digest_of in
    let was = c.args.self.now in
    let s : State = state_of dg was.agent in
    let said : command_of c.args.line.now ≡ Ok c.in-Ok.command = sym c.in_ok-said.ensures.answer ∙ c.in-Ok.is in
    subst (λ (a : Result Command Refusal). Writes {T = Option Refusal} (g.K.Sink.state c.args.sink.now) (g.K.Sink.state c.follow.new.sink) (accepted_text command_text s (checked dg was.agent.resources a)) c.follow.result)
    (sym said) c.follow.ensures.writes

-- ---- a refusal

pub returns-in-Err-clause-state : goal.returns-in-Err-clause-state
returns-in-Err-clause-state g c =
    let dg = g.R.DigestRule.digest_of in
    let was = c.args.self.now in
    let s : State = state_of dg was.agent in
    let said : command_of c.args.line.now ≡ Err c.in-Err.refusal = sym c.in_ok-said.ensures.answer ∙ c.in-Err.is in
    sym (ap (λ (a : Result Command Refusal). settled accepted s (checked dg was.agent.resources a)) said)

pub returns-in-Err-clause-refused : goal.returns-in-Err-clause-refused
returns-in-Err-clause-refused g c =
    let said : command_of c.args.line.now ≡ Err c.in-Err.refusal = sym c.in_ok-said.ensures.answer ∙ c.in-Err.is in
    sym (ap (λ (a : Result Command Refusal). refusal_in (checked g.R.DigestRule.digest_of c.args.self.now.agent.resources a)) said)

pub returns-in-Err-clause-tally : goal.returns-in-Err-clause-tally
returns-in-Err-clause-tally g c =
    let dg = g.R.DigestRule.digest_of in
    let was = c.args.self.now in
    let s : State = state_of dg was.agent in
    let said : command_of c.args.line.now ≡ Err c.in-Err.refusal = sym c.in_ok-said.ensures.answer ∙ c.in-Err.is in
    sym (ap (λ (a : Result Command Refusal). tally_after was.tally (flushed_in s (checked dg was.agent.resources a))) said)

pub returns-in-Err-clause-tests : goal.returns-in-Err-clause-tests
returns-in-Err-clause-tests g c =
    let dg = g.R.DigestRule.digest_of in
    let was = c.args.self.now in
    let said : command_of c.args.line.now ≡ Err c.in-Err.refusal = sym c.in_ok-said.ensures.answer ∙ c.in-Err.is in
    subst (λ (a : Result Command Refusal). HasTested was.agent.resources (checked dg was.agent.resources a) was.ticks was.ticks)
    (sym said) (IsTicked-none was.ticks.ticks)

pub returns-in-Err-clause-writes : goal.returns-in-Err-clause-writes
returns-in-Err-clause-writes g c =
    let dg = g.R.DigestRule.digest_of in
    let was = c.args.self.now in
    let s : State = state_of dg was.agent in
    let said : command_of c.args.line.now ≡ Err c.in-Err.refusal = sym c.in_ok-said.ensures.answer ∙ c.in-Err.is in
    Writes-none (g.K.Sink.state c.args.sink.now) _ _ (ap (λ (a : Result Command Refusal). accepted_text command_text s (checked dg was.agent.resources a)) said)
