use Rattle.std.proofs.Common.{sym, ap, ◌∙◌}
use Rattle.fx_model.specs.Lent.{change_of}
use Rattle.fx_model.specs.Views.{view_of}
use Rattle.fx_engine.specs.States.{EngineState}
use Rattle.felix_host.proofs.NodeLemmas.{told_next, took_next, no_step}
use Rattle.felix_host.proofs.node.take_next.Goals as goal

pub take_message-requires : goal.take_message-requires
take_message-requires g c =
    let e = c.args.engine.now in
    told_next c.args.view.now e.sent (view_of g.R.DigestRule.digest_of e.resources) (change_of c.in-Some.message) c.requires.told (sym c.in-Some.ensures.message)

pub returns-clause-told : goal.returns-clause-told
returns-clause-told g c =
    let e = c.args.engine.now in
    took_next c.args.view.now c.take_message.new.view e.sent (view_of g.R.DigestRule.digest_of e.resources) (change_of c.in-Some.message) c.requires.told (sym c.in-Some.ensures.message) c.in_ok-take_message.ensures
    ∙ sym (ap (λ (s : EngineState). s.sent) c.sent.ensures)

pub returns-clause-step : goal.returns-clause-step
returns-clause-step g c = c.sent.ensures

pub returns-in_default-clause-step : goal.returns-in_default-clause-step
returns-in_default-clause-step g c =
    let e = c.args.engine.now in
    no_step e (view_of g.R.DigestRule.digest_of e.resources) (sym c.in_default.ensures.message)
