-- What a run over host endpoints stands for between two lines.
use Rattle.std.specs.Prelude.{◌≡◌, true, false}
use Rattle.fx_names.specs.Digests.{Digest}
use Rattle.fx_model.specs.declared.resources.Resources.{Resources}
use Rattle.fx_model.specs.declared.view.View.{View}
use Rattle.fx_model.specs.Closed.{IsClosedView}
use Rattle.fx_model.specs.Shapes.{AreOfKinds}
use Rattle.fx_model.specs.Tables.{Tables}
use Rattle.fx_driver.specs.Stepping.{IsDrivable}
use Rattle.fx_engine.specs.States.{EngineState}
use Rattle.fx_hostep.specs.declared.failsafe.Failsafe.{Failsafe}
use Rattle.fx_hostep.specs.FailsafePorts.{have_port_protocols}
use Rattle.fx_hostep.specs.HostRuns.{IsHostServable}
use Rattle.fx_hostep.specs.HostTables.{host_tables_of}
use Rattle.felix_host.specs.Output.{State}

abbrev pub state_of : Digest → Resources → Failsafe → Tables → State
state_of dg R failsafe tables = record { digest = dg; resources = R; failsafe = failsafe; tables = tables }

-- the resources can be served, the view is the one that the engine told, and memory never ran out
pub record IsFollowed (dg : Digest) (e : EngineState) (v : View) : Type 0 where
  pub servable : IsHostServable dg e.resources
  pub told : v ≡ e.sent
  pub drivable : IsDrivable v
  pub ready : e.failed ≡ false

-- the tables are the host tables of some view and some failsafe ports
pub record AreHostTables (tables : Tables) : Type 0 where
  pub view : View
  pub failsafe : Failsafe
  pub closed : IsClosedView view
  pub kinds : AreOfKinds view.sets
  pub same : tables ≡ host_tables_of view failsafe

pub record IsReady (dg : Digest) (e : EngineState) (v : View) (failsafe : Failsafe) (tables : Tables) : Type 0 where
  pub followed : IsFollowed dg e v
  pub protocols : have_port_protocols failsafe ≡ true
  pub standing : AreHostTables tables
