-- Under which texts selectors are counted.
use Rattle.std.specs.Prelude.{◌≡◌, ℕ, List, Some}
use Rattle.std.specs.Ordering.{nat_cmp}
use Rattle.std.specs.Cmp.Lexicographic.{slice_cmp}
use Rattle.std.specs.FinMap as map
use Rattle.fx_selector.specs.Tree.{IsSelector}
use Rattle.fx_selector.specs.Canonical.{canonical_text}
use Rattle.fx_label_index.specs.declared.counted.Counted.{Counted}

abbrev pub Selectors : Type 0
Selectors = map.FinMap (slice_cmp nat_cmp) Counted

-- each selector under its canonical text
abbrev pub AreCanonical : Selectors → Type 0
AreCanonical m = (t : List ℕ) (counted : Counted) → map.get m t ≡ Some counted → IsSelector counted.selector × (t ≡ canonical_text counted.selector)
