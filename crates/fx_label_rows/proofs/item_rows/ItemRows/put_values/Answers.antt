use Rattle.std.proofs.Common.{◌||◌, ap, ◌∙◌}
use Rattle.std.specs.FinMap as map
use Rattle.fx_base.specs.Set as set
use Rattle.fx_base.specs.Grouped.{has_key}
use Rattle.fx_label_rows.proofs.ItemLemmas.{value_next}
use Rattle.fx_label_rows.proofs.item_rows.ItemRows.put_values.Goals as goal

pub loop-text-preserved : goal.loop-text-preserved
loop-text-preserved c = λ i.
    let now = c.loop-text.items in
    value_next c.args.self.now c.args.texts.now c.loop-text.text-index c.text-item.result now c.put_found.new.items i _ c.loop-text-test.true c.text-item.is (c.loop-text.invariant i)
    (c.in_ok-put_found.ensures i ∙ ap (λ o. has_key o i || set.contains now i) (c.get.ensures ∙ ap (λ m. map.get m c.text-item.result) c.self.view_is))
