-- How many tests of a selector on an item's labels an update calls for, at least and at most. Felix's documented label index tests a
-- selector only where labels or selectors change, and only on labels that have what the selector needs.
use Rattle.std.specs.Prelude.{ℕ, ◌+◌, cond, List, ◌++◌, Bool, false, not, ◌&&◌, ◌||◌, Option, Some, None, option_map, map, count_by}
use Rattle.std.specs.List.{list_any, sum_by}
use Rattle.std.specs.Ordering.{eq_by_cmp}
use Rattle.std.specs.Str.{bytes_eq}
use Rattle.std.specs.FinMap as maps
use Rattle.fx_base.specs.Extended.{collected}
use Rattle.fx_selector.specs.Tree.{Tree}
use Rattle.fx_selector.specs.Canonical.{canonical_text}
use Rattle.fx_selector.specs.Needs.{needed, meets}
use Rattle.fx_selector.specs.Truth.{LabelMap, holds}
use Rattle.fx_model.specs.declared.ids.ItemKey.{ItemKey}
use Rattle.fx_model.specs.declared.ids.ItemKey.TheVariants as item_key
use Rattle.fx_model.specs.declared.ids.Key.{Key}
use Rattle.fx_model.specs.declared.ids.Key.TheVariants as key
use Rattle.fx_model.specs.declared.resources.Item.{Item}
use Rattle.fx_model.specs.declared.resources.Item.TheVariants as item
use Rattle.fx_model.specs.declared.resources.Resources.{Resources}
use Rattle.fx_model.specs.declared.resources.Update.{Update}
use Rattle.fx_model.specs.declared.resources.Update.TheVariants as update
use Rattle.fx_model.specs.contracts.ids.ItemKeyOrd.TheImpl as item_cmp
use Rattle.fx_model.specs.Labels.{Labelled, labelled, labels_of}
use Rattle.fx_model.specs.Messages.{Named}
use Rattle.fx_model.specs.Resources.{after, items_of}
use Rattle.fx_model.specs.Views.{wanted_uses}

-- ---- which selectors are live

abbrev pub policy_selectors : Resources → List Tree
policy_selectors R = map (λ x. x.1.selector) (maps.entries R.policies)

-- those of the sets of the wanted view
abbrev pub set_selectors : Resources → List Tree
set_selectors R = map (λ u. u.selector) (wanted_uses R)

abbrev pub by_text : Tree → List ℕ × Tree
by_text t = (canonical_text t, t)

-- the selectors of policies and of the wanted view's sets, by their canonical texts
abbrev pub live : Resources → Named Tree
live R = collected (map by_text (policy_selectors R ++ set_selectors R))

-- ---- which items an update touches

abbrev pub is_key_of : Key → ItemKey → Bool
is_key_of (key.Item k) i = eq_by_cmp item_cmp.cmp-value.it i k
is_key_of (key.Profile name) i = false
is_key_of (key.Tier name) i = false
is_key_of (key.Policy id) i = false

abbrev pub has_parent : Labelled → Key → Bool
has_parent x (key.Item k) = false
has_parent x (key.Profile name) = list_any (λ parent. bytes_eq parent name) x.parents
has_parent x (key.Tier name) = false
has_parent x (key.Policy id) = false

-- Of the items that are there after the update: the one that it puts, and those that have the profile that it puts or deletes as a
-- parent. An item that it deletes is not there and needs no test.
abbrev pub is_touched : Update → ItemKey × Item → Bool
is_touched update.InSync e = false
is_touched (update.Put k x) e = is_key_of k e.0 || has_parent (labelled e.0 e.1) k
is_touched (update.Delete k) e = has_parent (labelled e.0 e.1) k

-- ---- one selector and one item

-- the endpoint or the network set at a key
abbrev pub item_at : Resources → ItemKey → Option Item
item_at R (item_key.Endpoint ns name) = option_map item.Endpoint (maps.get R.endpoints (item_key.Endpoint ns name))
item_at R (item_key.NetSet ns name) = option_map item.NetSet (maps.get R.net_sets (item_key.NetSet ns name))

-- its effective labels
abbrev pub labels_at : Resources → ItemKey → Option LabelMap
labels_at R k = option_map (λ x. labels_of R (k, x)) (item_at R k)

-- an item of these labels is there, and they have what the selector needs
abbrev pub is_met_by : Tree → Option LabelMap → Bool
is_met_by t None = false
is_met_by t (Some m) = meets (needed t) m

-- an item of these labels is there, and the selector holds on them
abbrev pub holds_by : Tree → Option LabelMap → Bool
holds_by t None = false
holds_by t (Some m) = holds t m

-- an item's labels before an update, if it was there, or those after it have what the selector needs
abbrev pub is_met_by_either : Tree → Option LabelMap → LabelMap → Bool
is_met_by_either t before now = is_met_by t before || meets (needed t) now

-- the selector holds on an item after an update, and before it did not or the item was not there
abbrev pub comes_to_hold : Tree → Option LabelMap → LabelMap → Bool
comes_to_hold t before now = holds t now && not (holds_by t before)

-- ---- all of them

-- how many of the selectors that were live pass on an item's labels before the update and after it
abbrev pub on_live : (Tree → Option LabelMap → LabelMap → Bool) → Resources → Update → ItemKey × Item → ℕ
on_live passes R u e = count_by (λ s. passes s.1 (labels_at R e.0) (labels_of (after R u) e)) (maps.entries (live R))

-- the same for each touched item
abbrev pub on_touched : (Tree → Option LabelMap → LabelMap → Bool) → Resources → Update → ℕ
on_touched passes R u = sum_by (λ e. cond (is_touched u e) (on_live passes R u e) 0) (items_of (after R u))

-- on how many items a selector passes
abbrev pub on_items : (Tree → LabelMap → Bool) → Resources → Tree → ℕ
on_items passes R t = count_by (λ e. passes t (labels_of R e)) (items_of R)

-- the same for each selector that the update makes live
abbrev pub of_new : (Tree → LabelMap → Bool) → Resources → Update → ℕ
of_new passes R u =
    sum_by (λ s. cond (maps.contains_key (live R) s.0) 0 (on_items passes (after R u) s.1)) (maps.entries (live (after R u)))

-- at most: where labels have what a selector needs, of a touched item before the update or after it, or of any item for a new selector
abbrev pub most_tests : Resources → Update → ℕ
most_tests R u = on_touched is_met_by_either R u + of_new (λ t m. meets (needed t) m) R u

-- at least: where a selector comes to hold on a touched item, or a new one holds on any item
abbrev pub least_tests : Resources → Update → ℕ
least_tests R u = on_touched comes_to_hold R u + of_new holds R u
