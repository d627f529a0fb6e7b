use Rattle.std.proofs.Common.{sym, ap, ◌∙◌, subst}
use Rattle.fx_driver.proofs.Drivable.{empty_view-drivable}
use Rattle.fx_driver.specs.Stepping.{IsDrivable}
use Rattle.fx_engine.specs.States.{EngineState}
use Rattle.fx_hostep.specs.HostRuns.{IsHostServable}
use Rattle.felix_host.proofs.NodeLemmas.{none-host-servable}
use Rattle.felix_host.proofs.node.HostNode.new.Goals as goal

pub returns-clause-resources : goal.returns-clause-resources
returns-clause-resources g c = ap (λ (e : EngineState). e.resources) c.in_ok-engine.ensures

pub returns-clause-view : goal.returns-clause-view
returns-clause-view g c = c.new-view.ensures

pub returns-clause-followed : goal.returns-clause-followed
returns-clause-followed g c =
    let dg = g.R.DigestRule.digest_of in
    let is = c.in_ok-engine.ensures in
    record {
      servable = subst (λ (e : EngineState). IsHostServable dg e.resources) (sym is) (none-host-servable dg c.args.name);
      told = c.new-view.ensures ∙ sym (ap (λ (e : EngineState). e.sent) is);
      drivable = subst IsDrivable (sym c.new-view.ensures) empty_view-drivable;
      ready = ap (λ (e : EngineState). e.failed) is;
    }
