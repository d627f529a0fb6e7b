-- How many tests lie between two inputs of the index, at least and at most, and how many pairs come.
use Rattle.std.specs.Prelude.{◌+◌, ◌&&◌, ◌||◌, ℕ, Bool, false, not, cond, nat_eq, length, List, Option, Some, None}
use Rattle.std.specs.Option.{option_eq}
use Rattle.std.specs.List.{count_by, sum_by}
use Rattle.std.specs.Cmp.Lexicographic.{pointwise}
use Rattle.std.specs.FinMap as map
use Rattle.fx_base.specs.Set as set
use Rattle.fx_base.specs.Ticks.{IsTicked}
use Rattle.fx_selector.specs.Tree.{Tree}
use Rattle.fx_selector.specs.Truth.{LabelMap}
use Rattle.fx_selector.specs.Needs.{needed, meets}
use Rattle.fx_model.specs.Pairs.{Pairs}
use Rattle.fx_model.specs.declared.ids.ItemKey.{ItemKey}
use Rattle.fx_label_index.specs.Canonicals.{Selectors}
use Rattle.fx_label_index.specs.Matched.{Parents, labels_of, holds_on}
use Rattle.fx_label_index.specs.declared.counted.Counted.{Counted}
use Rattle.fx_label_index.specs.declared.held.Held.{Held}
use Rattle.fx_label_index.specs.declared.held.Inputs.{Inputs}

-- ---- labels before and after
-- the effective labels of an item, if it is there
abbrev pub labels_in : Inputs → ItemKey → Option LabelMap
labels_in n i = labels_of (map.get n.parents) (map.get n.items i)

abbrev pub same_map : LabelMap → LabelMap → Bool
same_map m n = pointwise (λ p q. pointwise nat_eq p.0 q.0 && pointwise nat_eq p.1 q.1) (map.entries m) (map.entries n)

abbrev pub same_labels : Option LabelMap → Option LabelMap → Bool
same_labels p q = option_eq same_map p q

-- labels that are there meet what the selector needs
abbrev pub met_on : Tree → Option LabelMap → Bool
met_on tree None = false
met_on tree (Some labels) = meets (needed tree) labels

-- a test of a selector by labels before and after, and one by labels after
abbrev pub Changing : Type 0
Changing = Tree → Option LabelMap → Option LabelMap → Bool

abbrev pub Standing : Type 0
Standing = Tree → Option LabelMap → Bool

abbrev pub either : Changing
either tree p q = met_on tree p || met_on tree q

abbrev pub comes : Changing
comes tree p q = holds_on tree q && not (holds_on tree p)

-- ---- on one item
-- how many selectors pass on labels that differ
abbrev pub at_labels : Changing → Selectors → Option LabelMap → Option LabelMap → ℕ
at_labels f selectors p q = cond (same_labels p q) 0 (count_by (λ c. f c.1.selector p q) (map.entries selectors))

abbrev pub at_item : Changing → Inputs → Parents → ItemKey × Held → ℕ
at_item f a parents e = at_labels f a.selectors (labels_in a e.0) (labels_of parents (Some e.1))

-- ---- of one selector
-- on how many items the selector passes
abbrev pub on_items : Standing → Inputs → Tree → ℕ
on_items g b tree = count_by (λ e. g tree (labels_of (map.get b.parents) (Some e.1))) (map.entries b.items)

-- where it wasn't counted
abbrev pub at_new : Standing → Selectors → Inputs → List ℕ × Counted → ℕ
at_new g before b c = cond (map.contains_key before c.0) 0 (on_items g b c.1.selector)

-- what a put of a selector has to test
abbrev pub at_put : Standing → Inputs → List ℕ → Tree → ℕ
at_put g b t tree = cond (map.contains_key b.selectors t) 0 (on_items g b tree)

-- ---- from one input to another
-- over the items that are there, the selectors before; over the selectors that are new, the items
abbrev pub between : Changing → Standing → Inputs → Inputs → ℕ
between f g a b = sum_by (at_item f a (map.get b.parents)) (map.entries b.items) + sum_by (at_new g a.selectors b) (map.entries b.selectors)

abbrev pub most_between : Inputs → Inputs → ℕ
most_between a b = between either met_on a b

abbrev pub least_between : Inputs → Inputs → ℕ
least_between a b = between comes holds_on a b

-- the ticks between two inputs are as few and as many as these
abbrev pub IsTested : Inputs → Inputs → ℕ → ℕ → Type 0
IsTested a b m n = IsTicked (least_between a b) (most_between a b) m n

-- how many pairs stand now that didn't
abbrev pub gained : Pairs → Pairs → ℕ
gained old new = length (set.items_minus new old)
