-- The counted selectors, as the texts of sets come into use and go out of it.
use Rattle.std.specs.Prelude.{ℕ, List, [], ◌∷◌, Option, Some, None}
use Rattle.std.specs.FinMap as map
use Rattle.fx_label_index.specs.Canonicals.{Selectors}
use Rattle.fx_label_index.specs.Counts.{raised, lowered}
use Rattle.fx_members.specs.UseText.{text_of}
use Rattle.fx_model.specs.Sinks.{Uses}
use Rattle.fx_model.specs.declared.set_use.SetUse.{SetUse}

-- a set's text once more
abbrev pub raised_at : Selectors → Option SetUse → Selectors
raised_at s None = s
raised_at s (Some u) = raised s (text_of u) u.selector

-- the same of each noted set that is used now, one after another
abbrev pub raised_by : Uses → List (List ℕ × Option SetUse) → Selectors → Selectors
raised_by uses [] s = s
raised_by uses (e ∷ es) s = raised_by uses es (raised_at s (map.get uses e.0))

-- a set's text once less
abbrev pub lowered_at : Selectors → Option SetUse → Selectors
lowered_at s None = s
lowered_at s (Some u) = lowered s (text_of u)

-- the same of each noted set that was used before, one after another
abbrev pub lowered_by : List (List ℕ × Option SetUse) → Selectors → Selectors
lowered_by [] s = s
lowered_by (e ∷ es) s = lowered_by es (lowered_at s e.1)
