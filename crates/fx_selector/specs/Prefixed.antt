-- Labels whose keys have a prefix, under which an item inherits the labels of its namespace or of its service account.
use Rattle.std.specs.Prelude.{ℕ, List, ◌++◌, map}
use Rattle.std.specs.FinMap as maps
use Rattle.fx_base.specs.Extended.{collected}
use Rattle.fx_selector.specs.Truth.{LabelMap}

-- a label under a prefix
abbrev pub prefixed_entry : List ℕ → List ℕ × List ℕ → List ℕ × List ℕ
prefixed_entry prefix e = (prefix ++ e.0, e.1)

abbrev pub prefixed : List ℕ → LabelMap → LabelMap
prefixed prefix m = collected (map (prefixed_entry prefix) (maps.entries m))
