-- Pairs of a selector's text and an item, held as the texts of each item; and the endpoints of each text.
use Rattle.std.specs.Prelude.{◌≡◌, ℕ, Bool, true, false, ◌&&◌, List, [], ◌∷◌}
use Rattle.std.specs.Ordering.{nat_cmp}
use Rattle.std.specs.Cmp.Lexicographic.{slice_cmp}
use Rattle.std.specs.FinMap as map
use Rattle.fx_base.specs.Set as set
use Rattle.fx_base.specs.Grouped.{Grouped, Texts, has_key}
use Rattle.fx_model.specs.Pairs.{Pairs}
use Rattle.fx_model.specs.declared.ids.ItemKey.{ItemKey}
use Rattle.fx_model.specs.contracts.ids.ItemKeyOrd.TheImpl.{cmp-value}
use Rattle.fx_active.specs.Inputs.{Endpoints}

-- ---- the texts of each item

abbrev pub ByItem : Type 0
ByItem = Grouped cmp-value.it (slice_cmp nat_cmp)

-- with the pairs of some texts and an item
abbrev pub with_texts : ItemKey → List (List ℕ) → Pairs → Pairs
with_texts i [] s = s
with_texts i (t ∷ ts) s = set.insert (with_texts i ts s) (t, i)

abbrev pub pairs_in : List (ItemKey × Texts) → Pairs
pairs_in [] = set.empty
pairs_in (e ∷ es) = with_texts e.0 (set.items e.1) (pairs_in es)

abbrev pub pairs_of : ByItem → Pairs
pairs_of by_item = pairs_in (map.entries by_item)

-- ---- the endpoints of each text

abbrev pub Rows : Type 0
Rows = Grouped (slice_cmp nat_cmp) cmp-value.it

-- below each text stand the endpoints that are there and on which the selector holds
abbrev pub AreHere : Rows → Endpoints → Pairs → Type 0
AreHere rows endpoints matched = (t : List ℕ) (i : ItemKey) → has_key (map.get rows t) i ≡ (map.contains_key endpoints i && set.contains matched (t, i))

abbrev pub has_some : {A : Type 0} → List A → Bool
has_some [] = false
has_some (x ∷ xs) = true
