use Rattle.std.proofs.Common.{◌≡◌, ◌<◌, ℕ, Bool, Option, IfOk, is_some, sym, ap, subst, arith}
use Rattle.std.specs.Prelude.{OnOk}
use Rattle.fx_model.specs.Messages.{Change, step_by}
use Rattle.fx_model.specs.Views.{view_of}
use Rattle.fx_model.specs.declared.view.View.{View}
use Rattle.fx_replay.specs.Output.{first_text}
use Rattle.fx_run.specs.Writing.{Writes}
use Rattle.fx_run.proofs.Writings.{Writes-none}
use Rattle.fx_replay.proofs.PortionLemmas.{within_next, within_none}
use Rattle.fx_replay.proofs.Pulling.{quiet-found}
use Rattle.fx_replay.proofs.sending.send_within.Goals as goal

pub returns-then-left-eq0-clause-found : goal.returns-then-left-eq0-clause-found
returns-then-left-eq0-clause-found g c =
    let agent = c.args.agent.now in
    let none : c.args.left ≡ 0 = omega arith in
    quiet-found _ (within_none c.args.left agent.sent (view_of g.R.DigestRule.digest_of agent.resources) none)

pub returns-then-left-eq0-clause-step : goal.returns-then-left-eq0-clause-step
returns-then-left-eq0-clause-step g c =
    let agent = c.args.agent.now in
    let wanted = view_of g.R.DigestRule.digest_of agent.resources in
    let none : c.args.left ≡ 0 = omega arith in
    sym (ap (λ (o : Option Change). step_by o agent.sent wanted) (within_none c.args.left agent.sent wanted none))

pub returns-then-left-eq0-clause-writes : goal.returns-then-left-eq0-clause-writes
returns-then-left-eq0-clause-writes g c =
    let agent = c.args.agent.now in
    let none : c.args.left ≡ 0 = omega arith in
    Writes-none (g.K.Sink.state c.args.sink.now) _ _ (ap first_text (within_none c.args.left agent.sent (view_of g.R.DigestRule.digest_of agent.resources) none))

pub returns-clause-found : goal.returns-clause-found
returns-clause-found g c =
    let agent = c.args.agent.now in
    let more : 0 < c.args.left = omega arith in
    let Found : Option Change → Type 0 = λ o. IfOk c.send_next.result (λ found. found ≡ is_some o) in
    subst Found (sym (within_next c.args.left agent.sent (view_of g.R.DigestRule.digest_of agent.resources) more)) c.send_next.ensures.found

pub returns-clause-step : goal.returns-clause-step
returns-clause-step g c =
    let agent = c.args.agent.now in
    let wanted = view_of g.R.DigestRule.digest_of agent.resources in
    let more : 0 < c.args.left = omega arith in
    let Stepped : Option Change → Type 0 = λ o. OnOk c.send_next.result (c.send_next.new.agent.sent ≡ step_by o agent.sent wanted) in
    subst Stepped (sym (within_next c.args.left agent.sent wanted more)) c.send_next.ensures.step

pub returns-clause-writes : goal.returns-clause-writes
returns-clause-writes g c =
    let agent = c.args.agent.now in
    let more : 0 < c.args.left = omega arith in
    let Wrote : Option Change → Type 0 = λ o. Writes {T = Bool} (g.K.Sink.state c.args.sink.now) (g.K.Sink.state c.send_next.new.sink) (first_text o) c.send_next.result in
    subst Wrote (sym (within_next c.args.left agent.sent (view_of g.R.DigestRule.digest_of agent.resources) more)) c.send_next.ensures.writes
