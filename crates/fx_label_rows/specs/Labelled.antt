-- Items by the labels that they have.
use Rattle.std.specs.Prelude.{◌≡◌, ◌&&◌, ℕ, Bool, false, List, Option, Some, None}
use Rattle.std.specs.Ordering.{nat_cmp, eq_by_cmp}
use Rattle.std.specs.Option.{option_map_or}
use Rattle.std.specs.Cmp.Lexicographic.{slice_cmp}
use Rattle.std.specs.List.{list_any}
use Rattle.std.specs.FinMap as map
use Rattle.fx_base.specs.Set as set
use Rattle.fx_base.specs.Grouped.{Grouped, has_key, same_text}
use Rattle.fx_selector.specs.Truth.{LabelMap}
use Rattle.fx_selector.specs.Needs.{Need, meets}
use Rattle.fx_model.specs.declared.ids.ItemKey.{ItemKey}
use Rattle.fx_model.specs.contracts.ids.ItemKeyOrd.TheImpl.{cmp-value}

abbrev pub ItemSet : Type 0
ItemSet = set.Set cmp-value.it

-- items below texts, such as values
abbrev pub ItemGroups : Type 0
ItemGroups = Grouped (slice_cmp nat_cmp) cmp-value.it

-- items by the keys and the values of labels
abbrev pub LabelGroups : Type 0
LabelGroups = map.FinMap (slice_cmp nat_cmp) ItemGroups

-- the labels of each item
abbrev pub LabelsByItem : Type 0
LabelsByItem = map.FinMap cmp-value.it LabelMap

abbrev pub same_item : ItemKey → ItemKey → Bool
same_item i k = eq_by_cmp cmp-value.it i k

-- an item stands below a value, if there are rows: by value and item
abbrev pub has_both : Option ItemGroups → List ℕ × ItemKey → Bool
has_both None p = false
has_both (Some rows) p = has_key (map.get rows p.0) p.1

-- some entry is this label
abbrev pub has_entry : List (List ℕ × List ℕ) → List ℕ → List ℕ → Bool
has_entry es k v = list_any (λ e. same_text e.0 k && same_text v e.1) es

-- the item is there and has this label
abbrev pub has_label : Option LabelMap → List ℕ → List ℕ → Bool
has_label None k v = false
has_label (Some labels) k v = option_map_or (λ x. same_text v x) (map.get labels k) false

-- each item stands under exactly its labels
abbrev pub AreLabelled : LabelsByItem → LabelGroups → Type 0
AreLabelled rows x = (k : List ℕ) (p : List ℕ × ItemKey) → has_both (map.get x k) p ≡ has_label (map.get rows p.1) k p.0

-- the item is there and its labels meet the need
abbrev pub meets_in : Option Need → Option LabelMap → Bool
meets_in n None = false
meets_in n (Some labels) = meets n labels

-- the item has one of the values, or any value
abbrev pub in_row : ItemGroups → Option (List (List ℕ)) → ItemKey → Bool
in_row row None i = list_any (λ v. has_key (map.get row v) i) (map.keys row)
in_row row (Some vs) i = list_any (λ v. has_key (map.get row v) i) vs

abbrev pub in_found : Option ItemGroups → Option (List (List ℕ)) → ItemKey → Bool
in_found None values i = false
in_found (Some row) values i = in_row row values i
