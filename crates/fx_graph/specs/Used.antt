-- How many used sets have a text.
use Rattle.std.specs.Prelude.{ℕ, ◌+◌, cond, List, [], ◌∷◌, Option, Some, None}
use Rattle.std.specs.FinMap as map
use Rattle.fx_label_index.specs.Matched.{text_eq}
use Rattle.fx_members.specs.UseText.{text_of}
use Rattle.fx_model.specs.Sinks.{Uses}
use Rattle.fx_model.specs.declared.set_use.SetUse.{SetUse}

-- one where the set's selector has the text
abbrev pub weight_of_use : List ℕ → SetUse → ℕ
weight_of_use t u = cond (text_eq t (text_of u)) 1 0

-- the same of a set that is used
abbrev pub weight_at : List ℕ → Option SetUse → ℕ
weight_at t None = 0
weight_at t (Some u) = weight_of_use t u

abbrev pub used_among : List ℕ → List (List ℕ × SetUse) → ℕ
used_among t [] = 0
used_among t (e ∷ es) = weight_of_use t e.1 + used_among t es

-- how many of the used sets have this text
abbrev pub used_in : Uses → List ℕ → ℕ
used_in uses t = used_among t (map.entries uses)
