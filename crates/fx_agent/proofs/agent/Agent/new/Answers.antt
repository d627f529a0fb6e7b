use Rattle.std.proofs.Common.{sym, ap, subst}
use Rattle.fx_model.specs.ViewPolicy.{IsServable}
use Rattle.fx_laws.proofs.NoResources.{none-servable}
use Rattle.fx_driver.specs.Drives.{Drives}
use Rattle.fx_driver.specs.Stepping.{IsDrivable}
use Rattle.fx_driver.proofs.Drivable.{empty_view-drivable}
use Rattle.fx_engine.specs.States.{EngineState}
use Rattle.fx_agent.proofs.Serving.{agent-driven}
use Rattle.fx_agent.proofs.agent.Agent.new.Goals as goal

pub invariant_of-result : goal.invariant_of-result
invariant_of-result g c =
    let dg = g.R.DigestRule.digest_of in
    let is = c.in_ok-engine.ensures in
    agent-driven dg c.in_ok-engine.engine c.in_ok-driver.driver
    (record {
      servable = subst (λ (e : EngineState). IsServable dg e.resources) (sym is) (none-servable dg c.args.node);
      drives = subst (λ (e : EngineState). Drives c.in_ok-driver.driver e.sent) (sym is) c.in_ok-driver.ensures;
      drivable = subst (λ (e : EngineState). IsDrivable e.sent) (sym is) empty_view-drivable;
    })

pub returns-clause-resources : goal.returns-clause-resources
returns-clause-resources g c = ap (λ (e : EngineState). e.resources) c.in_ok-engine.ensures

pub returns-clause-sent : goal.returns-clause-sent
returns-clause-sent g c = ap (λ (e : EngineState). e.sent) c.in_ok-engine.ensures

pub returns-clause-ready : goal.returns-clause-ready
returns-clause-ready g c = ap (λ (e : EngineState). e.failed) c.in_ok-engine.ensures
