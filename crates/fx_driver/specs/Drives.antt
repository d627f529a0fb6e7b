-- What a driver holds, and how it follows the views from one message to the next.
use Rattle.std.specs.Prelude.{◌≡◌, List, ℕ}
use Rattle.std.specs.FinMap as maps
use Rattle.fx_base.specs.Set as set
use Rattle.fx_model.specs.declared.view.View.{View}
use Rattle.fx_model.specs.Messages.{Change, step}
use Rattle.fx_driver.specs.declared.driver.Driver.{Driver}
use Rattle.fx_model.specs.ViewTables.{tables_of}
use Rattle.fx_driver.specs.Stepping.{IsStep}

-- the tables of a view, and the interfaces of its endpoints
pub record Drives (driver : Driver) (v : View) : Type 0 where
  pub tables : driver.tables ≡ tables_of v
  pub interfaces : (iface : List ℕ) → set.contains driver.dispatch iface ≡ maps.contains_key v.endpoints iface

-- the change is the next one from the view that the driver holds towards some other
abbrev pub IsNext : Driver → Change → Type 0
IsNext driver change = (sent : View) × ((now : View) × (Drives driver sent × IsStep sent now change))

-- whichever these views are, after the change the driver holds the view after the step
abbrev pub Follows : Driver → Driver → Change → Type 0
Follows before after change = (sent now : View) → Drives before sent → IsStep sent now change → Drives after (step sent now)
