use Rattle.std.proofs.Common.{inl, sym, ap, ◌∙◌, subst}
use Rattle.std.proofs.lemmas.Result.{err_from_is_err_and}
use Rattle.fx_model.specs.Lent.{change_of}
use Rattle.fx_engine.specs.States.{EngineState}
use Rattle.fx_agent.specs.Sound.{IsDriven}
use Rattle.fx_agent.proofs.Answering.{no_write, sent-tells, torn-left}
use Rattle.fx_agent.proofs.Driving.{driven-on, is-next}
use Rattle.fx_agent.proofs.pulling.hand_on.Goals as goal

pub apply-requires : goal.apply-requires
apply-requires g c = is-next g.R.DigestRule.digest_of c.args.engine.now c.args.driver.now c.requires.driven (change_of c.in-Some.message) (sym c.in-Some.ensures.message)

pub returns-in_err-message-clause-out : goal.returns-in_err-message-clause-out
returns-in_err-message-clause-out g c =
    let p = err_from_is_err_and c.from_residual.result c.from_residual.ensures.1 in
    rw p.1 (torn-left _ _ _ p.0 (change_of c.in-Some.message) (sym c.in-Some.ensures.message) c.in_err-message.ensures.part)

pub returns-in_err-message-clause-cause : goal.returns-in_err-message-clause-cause
returns-in_err-message-clause-cause g c =
    let p = err_from_is_err_and c.from_residual.result c.from_residual.ensures.1 in
    λ is. c.in_err-message.ensures.cause (cc (p.1, p.2, is))

pub returns-in_err-apply-clause-out : goal.returns-in_err-apply-clause-out
returns-in_err-apply-clause-out g c =
    let p = err_from_is_err_and c.from_residual-in_err-apply.result c.from_residual-in_err-apply.ensures.1 in
    rw (p.1, p.2) (change_of c.in-Some.message, (sym c.in-Some.ensures.message, inl c.in_ok-message.ensures.whole))

pub returns-in_err-apply-clause-cause : goal.returns-in_err-apply-clause-cause
returns-in_err-apply-clause-cause g c =
    let p = err_from_is_err_and c.from_residual-in_err-apply.result c.from_residual-in_err-apply.ensures.1 in
    λ is. no_write _ p.0 p.1 p.2 is

pub returns-in_err-apply-clause-driver : goal.returns-in_err-apply-clause-driver
returns-in_err-apply-clause-driver g c =
    let p = err_from_is_err_and c.from_residual-in_err-apply.result c.from_residual-in_err-apply.ensures.1 in
    λ is. no_write _ p.0 p.1 p.2 is

pub returns-clause-driven : goal.returns-clause-driven
returns-clause-driven g c =
    let dg = g.R.DigestRule.digest_of in
    let after = driven-on dg c.args.engine.now c.args.driver.now c.requires.driven (change_of c.in-Some.message) (sym c.in-Some.ensures.message) c.apply.new.self c.in_ok-apply.ensures.driven in
    subst (λ (e : EngineState). IsDriven dg e c.apply.new.self) (sym c.sent.ensures) after

pub returns-clause-stays : goal.returns-clause-stays
returns-clause-stays g c = ap (λ (e : EngineState). e.failed) c.sent.ensures ∙ c.requires.ready

pub returns-clause-step : goal.returns-clause-step
returns-clause-step g c = ap (λ (e : EngineState). e.sent) c.sent.ensures

pub returns-clause-resources : goal.returns-clause-resources
returns-clause-resources g c = ap (λ (e : EngineState). e.resources) c.sent.ensures

pub returns-clause-pulled : goal.returns-clause-pulled
returns-clause-pulled g c = (change_of c.in-Some.message, (sym c.in-Some.ensures.message, c.in_ok-message.ensures.whole))

pub returns-clause-nothing : goal.returns-clause-nothing
returns-clause-nothing g c = sent-tells c.in-Some.ensures.none
