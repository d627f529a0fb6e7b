use Rattle.std.proofs.Common.{◌≡◌, ℕ, ◌&&◌, cond, List, drop}
use Rattle.std.specs.FinMap as map
use Rattle.fx_selector.specs.Truth.{is_among}
use Rattle.fx_label_rows.specs.TextGroups.{has_pair}
use Rattle.fx_base.specs.Grouped.{same_text}
use Rattle.fx_label_rows.proofs.by_need.change_values.Given as goal

-- with the values that are left, the rows are as they are to be
abbrev pub invariant-loop-value : goal.invariant-loop-value
invariant-loop-value l = (k : List ℕ) (p : List ℕ × List ℕ) →
    cond (same_text k l.key && (is_among (drop l.value-index l.values) p.0 && same_text p.1 l.text)) l.standing (has_pair (map.get l.by_value k) p)
    ≡ cond (same_text k l.key && (is_among l.values p.0 && same_text p.1 l.text)) l.standing (has_pair (map.get l.fn.by_value k) p)
