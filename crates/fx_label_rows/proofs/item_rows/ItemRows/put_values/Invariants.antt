use Rattle.std.proofs.Common.{◌≡◌, ◌||◌, drop}
use Rattle.std.specs.List.{list_any}
use Rattle.std.specs.FinMap as map
use Rattle.fx_base.specs.Set as set
use Rattle.fx_model.specs.declared.ids.ItemKey.{ItemKey}
use Rattle.fx_base.specs.Grouped.{has_key}
use Rattle.fx_label_rows.proofs.item_rows.ItemRows.put_values.Given as goal

abbrev pub invariant-loop-text : goal.invariant-loop-text
invariant-loop-text l = (i : ItemKey) → (list_any (λ v. has_key (map.get l.fn.self v) i) (drop l.text-index l.texts) || set.contains l.items i) ≡ (list_any (λ v. has_key (map.get l.fn.self v) i) l.texts || set.contains l.fn.items i)
