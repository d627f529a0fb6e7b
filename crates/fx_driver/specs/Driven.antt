-- The chains that a driver holds for a view.
use Rattle.std.specs.Prelude.{◌≡◌, true}
use Rattle.std.specs.FinMap as maps
use Rattle.fx_model.specs.declared.view.View.{View}
use Rattle.fx_model.specs.Tables.{Chains, forward}
use Rattle.fx_model.specs.ViewTables.{tables_of}

abbrev pub driven_chains : View → Chains
driven_chains v = (tables_of v).chains

-- the chain at which every packet begins is there
abbrev pub HasFirst : Chains → Type 0
HasFirst chains = maps.contains_key chains forward ≡ true
