-- What the index keeps beside its inputs: items by labels and by parents, texts by what their selectors need, and for each item the
-- texts that hold on it.
use Rattle.std.specs.Prelude.{◌≡◌, ℕ, Bool, false, List, Option, Some, None}
use Rattle.std.specs.List.{count_by}
use Rattle.std.specs.Cmp.Lexicographic.{slice_cmp}
use Rattle.std.specs.FinMap as map
use Rattle.fx_base.specs.Set as set
use Rattle.fx_base.specs.Grouped.{Grouped, has_key}
use Rattle.std.specs.Ordering.{nat_cmp}
use Rattle.fx_selector.specs.Truth.{LabelMap, is_among}
use Rattle.fx_selector.specs.Needs.{needed, meets}
use Rattle.fx_label_rows.specs.Spots.{Spot, stands, at}
use Rattle.fx_label_rows.specs.Labelled.{ItemGroups, LabelsByItem, AreLabelled}
use Rattle.fx_label_rows.specs.declared.by_need.TextsByNeed.{TextsByNeed}
use Rattle.fx_model.specs.Pairs.{Pairs}
use Rattle.fx_model.specs.declared.ids.ItemKey.{ItemKey}
use Rattle.fx_model.specs.contracts.ids.ItemKeyOrd.TheImpl.{cmp-value}
use Rattle.fx_label_index.specs.Canonicals.{Selectors}
use Rattle.fx_label_index.specs.Matched.{tests, labels_of}
use Rattle.fx_label_index.specs.Tested.{Changing, labels_in, at_labels}
use Rattle.fx_label_index.specs.declared.counted.Counted.{Counted}
use Rattle.fx_label_index.specs.declared.held.Held.{Held}
use Rattle.fx_label_index.specs.declared.held.Inputs.{Inputs}
use Rattle.fx_label_index.specs.declared.indexes.Indexes.{Indexes}
use Rattle.fx_label_index.specs.declared.state.State.{State}

abbrev pub TextsByItem : Type 0
TextsByItem = Grouped cmp-value.it (slice_cmp nat_cmp)

-- ---- texts by what their selectors need
abbrev pub stands_in : Option Counted → Spot → Bool
stands_in None s = false
stands_in (Some counted) s = stands (needed counted.selector) s

-- each counted selector stands under exactly what it needs
abbrev pub AreNeeded : Selectors → TextsByNeed → Type 0
AreNeeded selectors x = (s : Spot) (t : List ℕ) → at x s t ≡ stands_in (map.get selectors t) s

-- labels meet what the counted selector needs
abbrev pub is_met : LabelMap → List ℕ × Counted → Bool
is_met labels e = meets (needed e.1.selector) labels

-- how many counted selectors the labels meet
abbrev pub met_number : Selectors → LabelMap → ℕ
met_number selectors labels = count_by (is_met labels) (map.entries selectors)

-- ---- what agrees
-- the pairs are those of an item and a text that is kept for it
abbrev pub AreTold : Pairs → TextsByItem → Type 0
AreTold pairs texts = (t : List ℕ) (i : ItemKey) → set.contains pairs (t, i) ≡ has_key (map.get texts i) t

-- items stand under their labels, texts under what their selectors need, and the texts of an item are those that hold on its labels
pub record AreKept (selectors : Selectors) (x : Indexes) : Type 0 where
  pub by_label : AreLabelled x.labels x.by_label.by_key
  pub by_need : AreNeeded selectors x.by_need
  pub texts : (i : ItemKey) (t : List ℕ) → has_key (map.get x.texts i) t ≡ tests (map.get selectors t) (map.get x.labels i)

-- the parents that an item lists
abbrev pub parents_of : Held → List (List ℕ)
parents_of held = held.parents

-- the item lists the parent
abbrev pub lists : Option Held → List ℕ → Bool
lists None name = false
lists (Some held) name = is_among held.parents name

-- each item stands under exactly the parents that it lists
abbrev pub AreListed : map.FinMap cmp-value.it Held → ItemGroups → Type 0
AreListed items groups = (name : List ℕ) (i : ItemKey) → has_key (map.get groups name) i ≡ lists (map.get items i) name

-- and the labels are the effective ones
pub record AreIndexed (s : State) : Type 0 where
  pub kept : AreKept s.inputs.selectors s.indexes
  pub labels : (i : ItemKey) → map.get s.indexes.labels i ≡ labels_of (map.get s.inputs.parents) (map.get s.inputs.items i)
  pub listed : AreListed s.inputs.items s.by_parent

-- ---- tests
-- the labels are the effective ones of these inputs
abbrev pub AreLabelsOf : LabelsByItem → Inputs → Type 0
AreLabelsOf labels n = (i : ItemKey) → map.get labels i ≡ labels_in n i

-- how many selectors pass on an item, from the labels that are kept for it to its effective ones
abbrev pub at_key : Changing → Inputs → LabelsByItem → ItemKey → ℕ
at_key f n labels i = at_labels f n.selectors (map.get labels i) (labels_in n i)
