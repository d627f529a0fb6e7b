-- An engine and a driver go on by one message.
use Rattle.std.proofs.Common.{◌≡◌, Some, Option, sym, subst}
use Rattle.fx_model.specs.declared.view.View.{View}
use Rattle.fx_model.specs.Messages.{Change, next_message, step, step_by, step_at}
use Rattle.fx_model.specs.Views.{view_of}
use Rattle.fx_names.specs.Digests.{Digest}
use Rattle.fx_laws.proofs.StepClosed.{step-closed}
use Rattle.fx_laws.proofs.StepFormed.{step-formed, step-of-kinds}
use Rattle.fx_driver.specs.declared.driver.Driver.{Driver}
use Rattle.fx_driver.specs.Drives.{Drives, Follows, IsNext}
use Rattle.fx_driver.specs.Stepping.{IsDrivable, IsStep}
use Rattle.fx_driver.proofs.Drivable.{wanted-drivable}
use Rattle.fx_engine.specs.States.{EngineState}
use Rattle.fx_agent.specs.Sound.{IsDriven}

-- ---- one step from a view towards another

module _ (sent wanted : View) (from : IsDrivable sent) (to : IsDrivable wanted) where
  stepped-drivable : (c : Change) → next_message sent wanted ≡ Some c → IsDrivable (step_at c sent wanted)
  stepped-drivable c is = record {
    closed = step-closed sent wanted from.closed to.closed c is;
    formed = step-formed sent wanted c from.formed to.formed;
    kinds = step-of-kinds sent wanted c from.kinds to.kinds;
  }

  drivable-on : (c : Change) → next_message sent wanted ≡ Some c → IsDrivable (step sent wanted)
  drivable-on c is = subst (λ (o : Option Change). IsDrivable (step_by o sent wanted)) (sym is) (stepped-drivable c is)

  is-step : (c : Change) → next_message sent wanted ≡ Some c → IsStep sent wanted c
  is-step c is = record { from = from; to = to; next = is }

-- ---- one step from the view that an engine sent towards that of its resources

module _ (dg : Digest) (e : EngineState) (driver : Driver) (was : IsDriven dg e driver) (c : Change) (is : next_message e.sent (view_of dg e.resources) ≡ Some c) where
  to : IsDrivable (view_of dg e.resources)
  to = wanted-drivable dg e.resources was.servable.formed

  pub is-next : IsNext driver c
  is-next = (e.sent, (view_of dg e.resources, (was.drives, is-step e.sent (view_of dg e.resources) was.drivable to c is)))

  -- after the message the driver holds the view after the step
  pub driven-on : (after : Driver) → Follows driver after c → IsDriven dg (record e { sent = step e.sent (view_of dg e.resources) }) after
  driven-on after follows = record {
    servable = was.servable;
    drives = follows e.sent (view_of dg e.resources) was.drives (is-step e.sent (view_of dg e.resources) was.drivable to c is);
    drivable = drivable-on e.sent (view_of dg e.resources) was.drivable to c is;
  }
