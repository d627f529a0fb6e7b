use Rattle.std.proofs.Common.{◌+◌, true, cond, ◌&&◌, drop, sym, ap, ◌∙◌}
use Rattle.std.specs.FinMap as map
use Rattle.fx_base.specs.Grouped.{has_key, same_text}
use Rattle.fx_selector.specs.Truth.{is_among}
use Rattle.fx_label_rows.specs.Labelled.{same_item}
use Rattle.fx_label_rows.proofs.TextLemmas.{merged, value_next}
use Rattle.fx_label_rows.proofs.item_rows.ItemRows.change_all.Goals as goal

pub loop-text-preserved : goal.loop-text-preserved
loop-text-preserved c = λ t i.
    let texts = c.args.texts.now in
    let j = c.loop-text.text-index in
    let b = c.args.standing in
    let later = is_among (drop (j + 1) texts) t in
    let here = same_item i c.args.key.now in
    let now = has_key (map.get c.loop-text.self t) i in
    ap (cond (later && here) b) (c.in_ok-change.ensures t i)
    ∙ merged true here later (same_text t c.text-item.result) b now
    ∙ ap (λ q. cond (q && here) b now) (sym (value_next texts j c.text-item.result c.loop-text-test.true c.text-item.is t))
    ∙ c.loop-text.invariant t i
