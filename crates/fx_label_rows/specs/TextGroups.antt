-- Texts below byte strings.
use Rattle.std.specs.Prelude.{ℕ, Bool, false, List, Option, Some, None}
use Rattle.std.specs.Ordering.{nat_cmp}
use Rattle.std.specs.Cmp.Lexicographic.{slice_cmp}
use Rattle.std.specs.FinMap as map
use Rattle.fx_base.specs.Grouped.{Grouped, has_key}

abbrev pub TextGroups : Type 0
TextGroups = Grouped (slice_cmp nat_cmp) (slice_cmp nat_cmp)

-- a text stands below a value, if there are rows: by value and text
abbrev pub has_pair : Option TextGroups → List ℕ × List ℕ → Bool
has_pair None p = false
has_pair (Some rows) p = has_key (map.get rows p.0) p.1
