-- A step from one view towards another.
use Rattle.std.specs.Prelude.{◌≡◌, true, Some}
use Rattle.fx_model.specs.declared.view.View.{View}
use Rattle.fx_model.specs.Closed.{IsClosedView}
use Rattle.fx_model.specs.Formed.{is_formed_view}
use Rattle.fx_model.specs.Messages.{Change, next_message}
use Rattle.fx_model.specs.Shapes.{AreOfKinds}

-- a view that can be driven: it names nothing that it lacks, its names have their lengths, and its sets have members of their kinds
pub record IsDrivable (v : View) : Type 0 where
  pub closed : IsClosedView v
  pub formed : is_formed_view v ≡ true
  pub kinds : AreOfKinds v.sets

-- the change is the next one from the sent view towards this one
pub record IsStep (sent now : View) (change : Change) : Type 0 where
  pub from : IsDrivable sent
  pub to : IsDrivable now
  pub next : next_message sent now ≡ Some change
