use Rattle.std.proofs.Common.{◌≡◌, ◌||◌, map, is_some}
use Rattle.std.specs.List.{list_any}
use Rattle.std.specs.FinMap as maps
use Rattle.fx_base.specs.Set as set
use Rattle.fx_model.specs.declared.ids.ItemKey.{ItemKey}
use Rattle.fx_label_rows.specs.Labelled.{same_item}
use Rattle.fx_label_rows.proofs.item_sets.all_of.Given as goal

-- with those that are left, the items are whole
abbrev pub invariant-loop-key : goal.invariant-loop-key
invariant-loop-key l = (i : ItemKey) → (list_any (same_item i) (map (λ e. e.0) l.key-iterator) || set.contains l.items i) ≡ is_some (maps.get l.fn.rows i)
