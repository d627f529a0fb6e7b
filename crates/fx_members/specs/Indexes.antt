-- What the node holds beside its inputs, so as to find things: sets of keys under keys.
use Rattle.std.specs.Prelude.{◌≡◌, ℕ, Bool, false, List, [], ◌∷◌, Option, Some, None}
use Rattle.std.specs.Ordering.{nat_cmp, eq_by_cmp}
use Rattle.std.specs.Cmp.Lexicographic.{slice_cmp}
use Rattle.std.specs.FinMap as map
use Rattle.fx_base.specs.Grouped.{Grouped, Texts, has_key, same_text}
use Rattle.fx_base.specs.Set as set
use Rattle.fx_model.specs.Pairs.{Pairs}
use Rattle.fx_model.specs.Sinks.{Uses}
use Rattle.fx_model.specs.declared.ids.ItemKey.{ItemKey}
use Rattle.fx_model.specs.declared.set_use.SetUse.{SetUse}
use Rattle.fx_model.specs.contracts.ids.ItemKeyOrd.TheImpl as item_cmp
use Rattle.fx_members.specs.UseText.{text_of}

abbrev pub same_item : ItemKey → ItemKey → Bool
same_item i k = eq_by_cmp item_cmp.cmp-value.it i k

abbrev pub Keys : Type 0
Keys = set.Set item_cmp.cmp-value.it

-- ---- the names of the sets of each text

abbrev pub NamesByText : Type 0
NamesByText = Grouped (slice_cmp nat_cmp) (slice_cmp nat_cmp)

-- a set that is used has a selector of this text
abbrev pub has_text : List ℕ → Option SetUse → Bool
has_text t None = false
has_text t (Some u) = same_text t (text_of u)

-- below each text stand the names of the sets that have it
abbrev pub AreByText : NamesByText → Uses → Type 0
AreByText names uses = (t q : List ℕ) → has_key (map.get names t) q ≡ has_text t (map.get uses q)

-- ---- the texts that hold on each item

abbrev pub TextsByItem : Type 0
TextsByItem = Grouped item_cmp.cmp-value.it (slice_cmp nat_cmp)

abbrev pub AreByItem : TextsByItem → Pairs → Type 0
AreByItem texts matched = (i : ItemKey) (t : List ℕ) → has_key (map.get texts i) t ≡ set.contains matched (t, i)

-- a set that is used has a selector of one of these texts
abbrev pub has_text_of : Option Texts → Option SetUse → Bool
has_text_of texts None = false
has_text_of texts (Some u) = has_key texts (text_of u)

-- ---- the items of each text, seen as pairs

abbrev pub ItemsByText : Type 0
ItemsByText = Grouped (slice_cmp nat_cmp) item_cmp.cmp-value.it

-- with the pairs of a text and some items
abbrev pub with_items : List ℕ → List ItemKey → Pairs → Pairs
with_items t [] s = s
with_items t (i ∷ is) s = set.insert (with_items t is s) (t, i)

abbrev pub pairs_in : List (List ℕ × Keys) → Pairs
pairs_in [] = set.empty
pairs_in (e ∷ es) = with_items e.0 (set.items e.1) (pairs_in es)

abbrev pub pairs_of : ItemsByText → Pairs
pairs_of rows = pairs_in (map.entries rows)
