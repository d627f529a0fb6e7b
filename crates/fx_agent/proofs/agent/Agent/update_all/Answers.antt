use Rattle.std.proofs.Common.{◌≡◌, true, ap, subst, ◌∙◌}
use Rattle.std.proofs.lemmas.Result.{err_from_is_err_and}
use Rattle.std.specs.List.{list_all}
use Rattle.fx_base.specs.Ticks.{IsTicked}
use Rattle.fx_model.specs.Batches.{after_all, clash_all}
use Rattle.fx_model.specs.Formed.{puts_workload_interface}
use Rattle.fx_model.specs.Steps.{least_tests_all, most_tests_all}
use Rattle.fx_engine.specs.Answers.{IsUpdateCause}
use Rattle.fx_agent.specs.States.{AgentState}
use Rattle.fx_agent.proofs.Serving.{agent-driven, agent-left, driven-anew, servable-after_all}
use Rattle.fx_agent.proofs.agent.Agent.update_all.Goals as goal

pub invariant_of-self : goal.invariant_of-self
invariant_of-self g c =
    let was = c.self.inside in
    agent-left g.R.DigestRule.digest_of was.engine c.update_all.new.self was.driver c.self.invariant c.in_err-update_all.field-0.0 c.in_err-update_all.ensures.left

pub invariant_of-self-2 : goal.invariant_of-self-2
invariant_of-self-2 g c =
    let dg = g.R.DigestRule.digest_of in
    let was = c.self.inside in
    let us = c.args.updates.items in
    let made = c.in_ok-update_all.ensures in
    let sound = c.self.invariant.sound made.ready in
    let R = was.engine.resources in
    let interfaces : list_all (puts_workload_interface R.node) us ≡ true =
    ap (λ (a : AgentState). list_all (puts_workload_interface a.resources.node) us) c.self.view_is ∙ c.requires.interfaces in
    let servable = servable-after_all dg R sound.servable us c.requires.formed interfaces made.free in
    agent-driven dg c.update_all.new.self was.driver (driven-anew dg was.engine c.update_all.new.self was.driver sound (after_all R us) servable made.resources made.sent)

pub returns-clause-tests : goal.returns-clause-tests
returns-clause-tests g c =
    let us = c.args.updates.items in
    let before = g.T.Ticker.number c.args.ticks.now in
    let now = g.T.Ticker.number c.update_all.new.ticks in
    let Tested : AgentState → Type 0 = λ a. IsTicked (least_tests_all a.resources us) (most_tests_all a.resources us) before now in
    subst Tested c.self.view_is c.in_ok-update_all.ensures.tests

pub returns-in_err-update_all-clause-cause : goal.returns-in_err-update_all-clause-cause
returns-in_err-update_all-clause-cause g c =
    let p = err_from_is_err_and c.from_residual.result c.from_residual.ensures.1 in
    let fault = c.in_err-update_all.field-0.0 in
    let Caused : AgentState → Type 0 = λ a. IsUpdateCause a.failed (clash_all g.R.DigestRule.digest_of a.resources c.args.updates.items) fault in
    rw (p.1, p.2) (subst Caused c.self.view_is c.in_err-update_all.ensures.cause)
