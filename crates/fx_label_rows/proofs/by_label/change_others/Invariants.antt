use Rattle.std.specs.Slice.Iter.{iter_rest}
use Rattle.std.proofs.Common.{◌≡◌, ℕ, ◌&&◌, not, cond, List, Some}
use Rattle.std.specs.FinMap as map
use Rattle.fx_model.specs.declared.ids.ItemKey.{ItemKey}
use Rattle.fx_label_rows.specs.Labelled.{same_item, has_both, has_entry, has_label}
use Rattle.fx_label_rows.proofs.by_label.change_others.Given as goal

-- with the labels that are left, the rows are as they are to be
abbrev pub invariant-loop-key : goal.invariant-loop-key
invariant-loop-key l = (k : List ℕ) (p : List ℕ × ItemKey) →
    cond ((has_entry (iter_rest l.key-iterator) k p.0 && not (has_label (Some l.others) k p.0)) && same_item p.1 l.item) l.standing (has_both (map.get l.by_key k) p)
    ≡ cond ((has_label (Some l.fn.labels) k p.0 && not (has_label (Some l.others) k p.0)) && same_item p.1 l.item) l.standing (has_both (map.get l.fn.by_key k) p)
