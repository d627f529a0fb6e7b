use Rattle.std.proofs.Common.{◌≡◌, ◌||◌, ℕ, List, map}
use Rattle.std.specs.List.{list_any}
use Rattle.fx_base.specs.Set as set
use Rattle.fx_base.specs.Grouped.{same_text}
use Rattle.fx_label_rows.proofs.text_rows.put_all.Given as goal

-- with those that are left, the texts are whole
abbrev pub invariant-loop-text : goal.invariant-loop-text
invariant-loop-text l = (t : List ℕ) → (list_any (same_text t) (map (λ e. e.0) l.text-iterator) || set.contains l.texts t) ≡ (set.contains l.fn.more t || set.contains l.fn.texts t)
