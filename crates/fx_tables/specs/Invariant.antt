-- What tables keep from one operation to the next.
use Rattle.fx_model.specs.Tables.{Tables}
use Rattle.fx_model.specs.Ranks.{IsRanked}
use Rattle.fx_model.specs.Closed.{AreClosedTables}
use Rattle.fx_model.specs.Shapes.{AreShaped, AreOfKinds}

pub record AreKept (t : Tables) : Type 0 where
  pub ranked : IsRanked t.chains
  pub closed : AreClosedTables t
  pub shaped : AreShaped t.chains
  pub kinds : AreOfKinds t.sets
