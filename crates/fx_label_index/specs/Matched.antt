-- Which pairs of a selector's text and an item the index tells of.
use Rattle.std.specs.Prelude.{◌≡◌, ℕ, Bool, false, List, Option, Some, None}
use Rattle.std.specs.Ordering.{nat_cmp, eq_by_cmp}
use Rattle.std.specs.Cmp.Lexicographic.{slice_cmp}
use Rattle.std.specs.FinMap as map
use Rattle.fx_base.specs.Set as set
use Rattle.fx_selector.specs.Tree.{Tree}
use Rattle.fx_selector.specs.Truth.{LabelMap, holds}
use Rattle.fx_model.specs.Labels.{effective}
use Rattle.fx_model.specs.Pairs.{Pairs}
use Rattle.fx_model.specs.declared.ids.ItemKey.{ItemKey}
use Rattle.fx_model.specs.contracts.ids.ItemKeyOrd.TheImpl.{cmp-value}
use Rattle.fx_label_index.specs.declared.counted.Counted.{Counted}
use Rattle.fx_label_index.specs.declared.held.Held.{Held}
use Rattle.fx_label_index.specs.declared.held.Inputs.{Inputs}

abbrev pub Items : Type 0
Items = map.FinMap cmp-value.it Held

abbrev pub ParentMap : Type 0
ParentMap = map.FinMap (slice_cmp nat_cmp) LabelMap

-- parents' labels by their names
abbrev pub Parents : Type 0
Parents = List ℕ → Option LabelMap

abbrev pub text_eq : List ℕ → List ℕ → Bool
text_eq t u = eq_by_cmp (slice_cmp nat_cmp) t u

abbrev pub item_eq : ItemKey → ItemKey → Bool
item_eq i k = eq_by_cmp cmp-value.it i k

-- the effective labels of an item that is there
abbrev pub labels_of : Parents → Option Held → Option LabelMap
labels_of parents None = None
labels_of parents (Some held) = Some (effective parents held.labels held.parents)

abbrev pub holds_on : Tree → Option LabelMap → Bool
holds_on tree None = false
holds_on tree (Some labels) = holds tree labels

-- whether a selector that is counted holds on the labels of an item that is there
abbrev pub tests : Option Counted → Option LabelMap → Bool
tests None labels = false
tests (Some counted) labels = holds_on counted.selector labels

abbrev pub is_matched : Inputs → List ℕ → ItemKey → Bool
is_matched n t i = tests (map.get n.selectors t) (labels_of (map.get n.parents) (map.get n.items i))

-- the pairs are those whose selector is counted and holds on the item's effective labels
abbrev pub IsMatched : Inputs → Pairs → Type 0
IsMatched n pairs = (t : List ℕ) (i : ItemKey) → set.contains pairs (t, i) ≡ is_matched n t i
