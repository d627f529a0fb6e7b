use Rattle.std.proofs.Common.{ap, ◌∙◌, sym, subst}
use Rattle.fx_driver.specs.Stepping.{IsDrivable}
use Rattle.fx_driver.proofs.Drivable.{empty_view-drivable}
use Rattle.fx_hostep.specs.FailsafePorts.{have_port_protocols}
use Rattle.fx_hostep.specs.HostTables.{host_tables_of}
use Rattle.felix_host.specs.Output.{start}
use Rattle.felix_host.proofs.host.Host.new.Goals as goal

pub host_goal-requires-clause-closed : goal.host_goal-requires-clause-closed
host_goal-requires-clause-closed g c = (subst IsDrivable (sym c.new-nothing.ensures) empty_view-drivable).closed

pub host_goal-requires-clause-formed : goal.host_goal-requires-clause-formed
host_goal-requires-clause-formed g c = (subst IsDrivable (sym c.new-nothing.ensures) empty_view-drivable).formed

pub host_goal-requires-clause-kinds : goal.host_goal-requires-clause-kinds
host_goal-requires-clause-kinds g c = (subst IsDrivable (sym c.new-nothing.ensures) empty_view-drivable).kinds

pub host_goal-requires-clause-protocols : goal.host_goal-requires-clause-protocols
host_goal-requires-clause-protocols g c = ap have_port_protocols c.new-failsafe.ensures

pub returns-clause-state : goal.returns-clause-state
returns-clause-state g c = λ j. record (start g.R.DigestRule.digest_of c.args.name) {
  resources = c.in_ok-node.ensures.resources j;
  failsafe = c.new-failsafe.ensures j;
  tables = (c.in_ok-tables.ensures ∙ (λ k. host_tables_of (c.new-nothing.ensures k) (c.new-failsafe.ensures k))) j;
}

pub returns-clause-ready : goal.returns-clause-ready
returns-clause-ready g c =
    let view = subst IsDrivable (sym c.new-nothing.ensures) empty_view-drivable in
    record {
      followed = c.in_ok-node.ensures.followed;
      protocols = ap have_port_protocols c.new-failsafe.ensures;
      standing = record { view = c.new-nothing.result; failsafe = c.new-failsafe.result; closed = view.closed; kinds = view.kinds; same = c.in_ok-tables.ensures };
    }
