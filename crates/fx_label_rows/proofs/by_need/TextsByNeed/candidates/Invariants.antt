use Rattle.std.specs.Slice.Iter.{iter_rest}
use Rattle.std.proofs.Common.{◌≡◌, ℕ, ◌||◌, List}
use Rattle.std.specs.List.{list_any}
use Rattle.fx_base.specs.Set as set
use Rattle.fx_label_rows.specs.Spots.{at_label, found}
use Rattle.fx_label_rows.proofs.by_need.TextsByNeed.candidates.Given as goal

-- with those of the labels that are left, the texts are whole
abbrev pub invariant-loop-key : goal.invariant-loop-key
invariant-loop-key l = (t : List ℕ) → (list_any (at_label l.fn.self t) (iter_rest l.key-iterator) || set.contains l.texts t) ≡ found l.fn.self l.fn.labels t
