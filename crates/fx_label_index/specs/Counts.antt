-- How often selectors are counted.
use Rattle.std.specs.Prelude.{ℕ, ◌+◌, ◌-◌, nat_lt, cond, List, Option, Some, None}
use Rattle.std.specs.FinMap as map
use Rattle.fx_base.specs.Extended.{put_or_removed}
use Rattle.fx_selector.specs.Tree.{Tree}
use Rattle.fx_label_index.specs.Canonicals.{Selectors}
use Rattle.fx_label_index.specs.declared.counted.Counted.{Counted}

abbrev pub uses_in : Option Counted → ℕ
uses_in None = 0
uses_in (Some counted) = counted.uses

-- the selector that stands, else this one
abbrev pub selector_in : Option Counted → Tree → Tree
selector_in None tree = tree
selector_in (Some counted) tree = counted.selector

-- the selector, unless it stands more than once
abbrev pub last_of : Option Counted → Option Tree
last_of None = None
last_of (Some counted) = cond (nat_lt 1 counted.uses) None (Some counted.selector)

-- once more
abbrev pub raised : Selectors → List ℕ → Tree → Selectors
raised m t tree = map.insert m t (record { selector = tree; uses = uses_in (map.get m t) + 1 })

abbrev pub lowered_in : Option Counted → Option Counted
lowered_in None = None
lowered_in (Some counted) = cond (nat_lt 1 counted.uses) (Some (record counted { uses = counted.uses - 1 })) None

-- once less, and gone with the last use
abbrev pub lowered : Selectors → List ℕ → Selectors
lowered m t = put_or_removed m t (lowered_in (map.get m t))
