use Rattle.std.proofs.Common.{◌≡◌, ℕ, ◌&&◌, cond, List, drop}
use Rattle.std.specs.FinMap as map
use Rattle.fx_base.specs.Grouped.{has_key}
use Rattle.fx_selector.specs.Truth.{is_among}
use Rattle.fx_model.specs.declared.ids.ItemKey.{ItemKey}
use Rattle.fx_label_rows.specs.Labelled.{same_item}
use Rattle.fx_label_rows.proofs.item_rows.ItemRows.change_all.Given as goal

-- with the texts that are left, the rows are as they are to be
abbrev pub invariant-loop-text : goal.invariant-loop-text
invariant-loop-text l = (t : List ℕ) (i : ItemKey) →
    cond (is_among (drop l.text-index l.texts) t && same_item i l.key) l.standing (has_key (map.get l.self t) i)
    ≡ cond (is_among l.texts t && same_item i l.key) l.standing (has_key (map.get l.fn.self t) i)
