-- What holds of an agent.
use Rattle.std.specs.Prelude.{◌≡◌, false}
use Rattle.fx_names.specs.Digests.{Digest}
use Rattle.fx_model.specs.ViewPolicy.{IsServable}
use Rattle.fx_driver.specs.Driven.{HasFirst}
use Rattle.fx_driver.specs.declared.driver.Driver.{Driver}
use Rattle.fx_driver.specs.Drives.{Drives}
use Rattle.fx_driver.specs.Stepping.{IsDrivable}
use Rattle.fx_engine.specs.States.{EngineState}

-- The resources can be served: they are formed, no two holders claim one name, and local endpoints are on interfaces of workloads.
-- The driver holds the view that was sent and its tables, and that view can be driven.
pub record IsDriven (dg : Digest) (e : EngineState) (d : Driver) : Type 0 where
  pub servable : IsServable dg e.resources
  pub drives : Drives d e.sent
  pub drivable : IsDrivable e.sent

-- at every moment packets have a first chain, and until memory has run out all of that holds
pub record IsAgent (dg : Digest) (e : EngineState) (d : Driver) : Type 0 where
  pub first : HasFirst d.tables.chains
  pub sound : e.failed ≡ false → IsDriven dg e d
