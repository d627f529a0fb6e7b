use Rattle.std.proofs.Common.{◌≡◌, true, ap, subst, ◌∙◌}
use Rattle.fx_base.specs.Ticks.{IsTicked}
use Rattle.fx_model.specs.Formed.{puts_workload_interface}
use Rattle.fx_model.specs.Resources.{after}
use Rattle.fx_model.specs.Tests.{least_tests, most_tests}
use Rattle.fx_agent.specs.States.{AgentState}
use Rattle.fx_agent.proofs.Serving.{agent-driven, agent-left, driven-anew, servable-after}
use Rattle.fx_agent.proofs.agent.Agent.update.Goals as goal

pub invariant_of-self : goal.invariant_of-self
invariant_of-self g c =
    let was = c.self.inside in
    agent-left g.R.DigestRule.digest_of was.engine c.update.new.self was.driver c.self.invariant c.in_err-update.field-0.0 c.in_err-update.ensures.left

pub invariant_of-self-2 : goal.invariant_of-self-2
invariant_of-self-2 g c =
    let dg = g.R.DigestRule.digest_of in
    let was = c.self.inside in
    let made = c.in_ok-update.ensures in
    let sound = c.self.invariant.sound made.ready in
    let R = was.engine.resources in
    let interface : puts_workload_interface R.node c.args.update ≡ true =
    ap (λ (a : AgentState). puts_workload_interface a.resources.node c.args.update) c.self.view_is ∙ c.requires.interface in
    let servable = servable-after dg R sound.servable c.args.update c.requires.formed interface made.free in
    agent-driven dg c.update.new.self was.driver (driven-anew dg was.engine c.update.new.self was.driver sound (after R c.args.update) servable made.resources made.sent)

pub returns-clause-tests : goal.returns-clause-tests
returns-clause-tests g c =
    let update = c.args.update in
    let before = g.T.Ticker.number c.args.ticks.now in
    let now = g.T.Ticker.number c.update.new.ticks in
    let Tested : AgentState → Type 0 = λ a. IsTicked (least_tests a.resources update) (most_tests a.resources update) before now in
    subst Tested c.self.view_is c.in_ok-update.ensures.tests
