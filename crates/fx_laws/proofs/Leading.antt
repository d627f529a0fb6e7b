-- The tables of a closed view are closed and ranked, since its chains can be written one after another.
use Rattle.std.proofs.Common.{List, [], ◌∷◌}
use Rattle.std.specs.FinMap as maps
use Rattle.fx_base.specs.Extended.{extended}
use Rattle.fx_model.specs.declared.view.View.{View}
use Rattle.fx_model.specs.declared.chain.ChainRule.{ChainRule}
use Rattle.fx_model.specs.Tables.{ChainName, Chains, Sets}
use Rattle.fx_model.specs.ViewTables.{chains_of, tables_of}
use Rattle.fx_model.specs.Ranks.{IsRanked}
use Rattle.fx_model.specs.Closed.{AreClosedTables, IsClosedView}
use Rattle.fx_model.specs.Writing.{CanBeWritten}
use Rattle.fx_model.proofs.ChainWrites.{ranked-empty, closed-empty, ranked-write, closed-write}
use Rattle.fx_laws.proofs.Writable.{chains_can_be_written}

ranked-written : (sets : Sets) (chains : Chains) (es : List (ChainName × List ChainRule)) → IsRanked chains → CanBeWritten sets chains es → IsRanked (extended chains es)
ranked-written sets chains [] was h = was
ranked-written sets chains (e ∷ es) was h = ranked-written sets (maps.insert chains e.0 e.1) es (ranked-write chains e.0 e.1 was h.0.below) h.1

closed-written : (sets : Sets) (chains : Chains) (es : List (ChainName × List ChainRule)) → AreClosedTables (record { sets = sets; chains = chains }) → CanBeWritten sets chains es → AreClosedTables (record { sets = sets; chains = extended chains es })
closed-written sets chains [] was h = was
closed-written sets chains (e ∷ es) was h = closed-written sets (maps.insert chains e.0 e.1) es (closed-write chains e.0 e.1 sets was h.0.there h.0.named) h.1

-- a closed view's tables
pub closed-tables : (v : View) → IsClosedView v → AreClosedTables (tables_of v)
closed-tables v closed = closed-written v.sets maps.empty (chains_of v) (closed-empty v.sets) (chains_can_be_written v closed)

pub ranked-tables : (v : View) → IsClosedView v → IsRanked (tables_of v).chains
ranked-tables v closed = ranked-written v.sets maps.empty (chains_of v) ranked-empty (chains_can_be_written v closed)
