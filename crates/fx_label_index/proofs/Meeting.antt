-- What is looked up of labels and of a selector is what their needs say.
use Rattle.std.proofs.Common.{◌≡◌, ℕ, ◌||◌, List, Option, Some, None, refl, ap, ◌∙◌}
use Rattle.std.specs.List.{list_any}
use Rattle.std.specs.Cmp.Lexicographic.{nat_list_cmp_total}
use Rattle.std.specs.FinMap.{entries, get}
use Rattle.fx_base.specs.Set as set
use Rattle.fx_base.specs.Grouped.{Texts}
use Rattle.fx_base.specs.Passing.{passes}
use Rattle.fx_base.proofs.Cases.{none_else}
use Rattle.fx_base.proofs.Filtered.{len-filtered}
use Rattle.fx_base.proofs.KeyCases.{bytes_exact}
use Rattle.fx_selector.specs.Tree.{Tree}
use Rattle.fx_selector.specs.Truth.{LabelMap}
use Rattle.fx_selector.specs.Needs.{Need, needed}
use Rattle.fx_label_rows.specs.Spots.{free, found}
use Rattle.fx_label_rows.specs.Labelled.{meets_in}
use Rattle.fx_label_rows.specs.declared.by_need.TextsByNeed.{TextsByNeed}
use Rattle.fx_label_rows.proofs.Meeting.{on_label, none_passes, by_need, found_at}
use Rattle.fx_label_index.specs.Canonicals.{Selectors}
use Rattle.fx_label_index.specs.Indexed.{AreNeeded, stands_in, is_met, met_number}
use Rattle.fx_label_index.specs.Tested.{met_on}
use Rattle.fx_label_index.specs.declared.counted.Counted.{Counted}

by_counted : (o : Option Counted) (labels : LabelMap) (t : List ℕ) → (list_any (on_label (stands_in o)) (entries labels) || stands_in o free) ≡ passes (is_met labels) t o
by_counted None labels t = none_else _ ∙ none_passes (entries labels)
by_counted (Some counted) labels t = by_need (needed counted.selector) labels

-- the texts that are found are those of the selectors whose needs the labels meet
pub found_met : (selectors : Selectors) (x : TextsByNeed) → AreNeeded selectors x → (labels : LabelMap) (t : List ℕ) → found x labels t ≡ passes (is_met labels) t (get selectors t)
found_met selectors x is labels t = found_at x labels t (stands_in (get selectors t)) (λ s. is s t) ∙ by_counted (get selectors t) labels t

-- as many as there are such selectors
pub found_number : (selectors : Selectors) (labels : LabelMap) (candidates : Texts) → ((t : List ℕ) → set.contains candidates t ≡ passes (is_met labels) t (get selectors t)) → set.len candidates ≡ met_number selectors labels
found_number selectors labels candidates are = len-filtered nat_list_cmp_total bytes_exact (is_met labels) candidates selectors are

met_in : (tree : Tree) (o : Option LabelMap) → meets_in (needed tree) o ≡ met_on tree o
met_in tree None = refl
met_in tree (Some labels) = refl

-- the items whose labels meet what is needed
pub meeting_met : (tree : Tree) (need : Option Need) (o : Option LabelMap) → need ≡ needed tree → meets_in need o ≡ met_on tree o
meeting_met tree need o is = ap (λ n. meets_in n o) is ∙ met_in tree o
