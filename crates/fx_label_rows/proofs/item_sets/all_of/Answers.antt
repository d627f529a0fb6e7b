use Rattle.std.proofs.Common.{◌≡◌, ◌||◌, map, is_some, sym, ap, ◌∙◌, subst}
use Rattle.std.specs.List.{list_any}
use Rattle.std.specs.FinMap as maps
use Rattle.std.specs.FinMap.{contains_key-keys}
use Rattle.fx_base.specs.Set as set
use Rattle.fx_model.specs.declared.ids.ItemKey.{ItemKey}
use Rattle.fx_label_rows.specs.Labelled.{same_item}
use Rattle.fx_label_rows.proofs.ItemLemmas.{put_next, no_item, nothing_more}
use Rattle.fx_label_rows.proofs.item_sets.all_of.Goals as goal

pub loop-key-init : goal.loop-key-init
loop-key-init c = λ i.
    ap (λ es. list_any (same_item i) (map (λ e. e.0) es) || set.contains c.new-items.result i) (c.into_iter-key-iterator.ensures.into_iter_gives ∙ c.iter-key-items.ensures)
    ∙ ap (λ b. list_any (same_item i) (maps.keys c.args.rows.now) || b) (ap (λ s. set.contains s i) c.new-items.ensures ∙ no_item i)
    ∙ nothing_more _ ∙ sym (contains_key-keys c.args.rows.now i)

pub loop-key-preserved : goal.loop-key-preserved
loop-key-preserved c =
    let whole = subst (λ es. (i : ItemKey) → (list_any (same_item i) (map (λ e. e.0) es) || set.contains c.loop-key.items i) ≡ is_some (maps.get c.args.rows.now i)) c.in-Some.ensures.steps c.loop-key.invariant in
    put_next c.loop-key.items c.set_item.new.items c.in-Some.key.now c.in-Some.field-0-1.now _ (λ i. is_some (maps.get c.args.rows.now i)) whole c.in_ok-set_item.ensures
