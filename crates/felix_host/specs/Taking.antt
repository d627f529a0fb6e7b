-- A view that follows the messages that tell of it.
use Rattle.std.specs.Prelude.{◌≡◌, Some}
use Rattle.fx_model.specs.declared.view.View.{View}
use Rattle.fx_model.specs.Messages.{Change, next_message, step}

-- the change is the next one from this view towards some other
abbrev pub IsTold : View → Change → Type 0
IsTold v c = (w : View) × (next_message v w ≡ Some c)

-- whichever that one is, after the change the view is the one after the step
abbrev pub Takes : View → View → Change → Type 0
Takes before now c = (w : View) → next_message before w ≡ Some c → now ≡ step before w
