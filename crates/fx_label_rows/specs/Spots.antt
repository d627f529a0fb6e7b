-- Where texts stand, by what their selectors need.
use Rattle.std.specs.Prelude.{◌&&◌, ◌||◌, ℕ, Bool, true, false, List, Option, Some, None}
use Rattle.std.specs.List.{list_any}
use Rattle.std.specs.FinMap as map
use Rattle.fx_base.specs.Set as set
use Rattle.fx_base.specs.Grouped.{has_key, same_text}
use Rattle.fx_selector.specs.Truth.{LabelMap, is_among}
use Rattle.fx_selector.specs.Needs.{Need}
use Rattle.fx_label_rows.specs.TextGroups.{has_pair}
use Rattle.fx_label_rows.specs.declared.by_need.TextsByNeed.{TextsByNeed}

-- beside all labels, at a key, or at a key and a value
pub data Spot : Type 0 where
  free : Spot
  at_key : List ℕ → Spot
  at_value : List ℕ → List ℕ → Spot

abbrev pub stands_by : List ℕ → Option (List (List ℕ)) → Spot → Bool
stands_by key values free = false
stands_by key None (at_key k) = same_text k key
stands_by key None (at_value k v) = false
stands_by key (Some vs) (at_key k) = false
stands_by key (Some vs) (at_value k v) = same_text k key && is_among vs v

-- a selector with this need stands at this spot
abbrev pub stands : Option Need → Spot → Bool
stands None free = true
stands None (at_key k) = false
stands None (at_value k v) = false
stands (Some n) s = stands_by n.key n.values s

-- the text is at the spot
abbrev pub at : TextsByNeed → Spot → List ℕ → Bool
at x free t = set.contains x.free t
at x (at_key k) t = has_key (map.get x.by_key k) t
at x (at_value k v) t = has_pair (map.get x.by_value k) (v, t)

-- the text is at a spot of the label
abbrev pub at_label : TextsByNeed → List ℕ → List ℕ × List ℕ → Bool
at_label x t e = at x (at_key e.0) t || at x (at_value e.0 e.1) t

-- the text is at a spot of the labels
abbrev pub found : TextsByNeed → LabelMap → List ℕ → Bool
found x labels t = list_any (at_label x t) (map.entries labels) || at x free t
