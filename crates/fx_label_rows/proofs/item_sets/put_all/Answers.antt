use Rattle.std.proofs.Common.{◌≡◌, ◌||◌, map, sym, ap, ◌∙◌, subst}
use Rattle.std.specs.List.{list_any}
use Rattle.std.specs.FinMap.{contains_key-keys}
use Rattle.fx_base.specs.Set as set
use Rattle.fx_model.specs.declared.ids.ItemKey.{ItemKey}
use Rattle.fx_label_rows.specs.Labelled.{same_item}
use Rattle.fx_label_rows.proofs.ItemLemmas.{put_next}
use Rattle.fx_label_rows.proofs.item_sets.put_all.Goals as goal

pub loop-key-init : goal.loop-key-init
loop-key-init c = λ i.
    ap (λ es. list_any (same_item i) (map (λ e. e.0) es) || set.contains c.args.items.now i) (c.into_iter-key-iterator.ensures.into_iter_gives ∙ c.iter-key-items.ensures)
    ∙ ap (λ b. b || set.contains c.args.items.now i) (sym (contains_key-keys c.args.more.now i))

pub loop-key-preserved : goal.loop-key-preserved
loop-key-preserved c =
    let whole = subst (λ es. (i : ItemKey) → (list_any (same_item i) (map (λ e. e.0) es) || set.contains c.loop-key.items i) ≡ (set.contains c.args.more.now i || set.contains c.args.items.now i)) c.in-Some.ensures.steps c.loop-key.invariant in
    put_next c.loop-key.items c.set_item.new.items _ _ _ (λ i. set.contains c.args.more.now i || set.contains c.args.items.now i) whole c.in_ok-set_item.ensures
