-- One pair of a selector's text and an item, which comes and goes.
use Rattle.std.specs.Prelude.{ℕ, Bool, cond, List}
use Rattle.fx_base.specs.Set as set
use Rattle.fx_model.specs.Pairs.{Pairs}
use Rattle.fx_model.specs.declared.ids.ItemKey.{ItemKey}

-- the pair where it stands, and no other
abbrev pub standing : List ℕ → ItemKey → Bool → Pairs
standing text item on = cond on (set.insert set.empty (text, item)) set.empty
