use Rattle.std.proofs.Common.{◌≡◌, ◌||◌, map}
use Rattle.std.specs.List.{list_any}
use Rattle.std.specs.FinMap as maps
use Rattle.fx_base.specs.Set as set
use Rattle.fx_base.proofs.Walk.{IsRest}
use Rattle.fx_model.specs.declared.ids.ItemKey.{ItemKey}
use Rattle.fx_base.specs.Grouped.{has_key}
use Rattle.fx_label_rows.proofs.item_rows.ItemRows.put_any.Given as goal

abbrev pub invariant-loop-more : goal.invariant-loop-more
invariant-loop-more l = record {
  rest : IsRest l.fn.self l.more-iterator;
  whole : (i : ItemKey) → (list_any (λ v. has_key (maps.get l.fn.self v) i) (map (λ e. e.0) l.more-iterator) || set.contains l.items i) ≡ (list_any (λ v. has_key (maps.get l.fn.self v) i) (maps.keys l.fn.self) || set.contains l.fn.items i);
}
