use Rattle.std.proofs.Common.{◌+◌, cond, ◌&&◌, drop, sym, ap, ◌∙◌}
use Rattle.std.specs.FinMap as map
use Rattle.fx_selector.specs.Truth.{is_among}
use Rattle.fx_label_rows.specs.TextGroups.{has_pair}
use Rattle.fx_base.specs.Grouped.{same_text}
use Rattle.fx_label_rows.proofs.TextLemmas.{merged, value_next}
use Rattle.fx_label_rows.proofs.by_need.change_values.Goals as goal

pub loop-value-preserved : goal.loop-value-preserved
loop-value-preserved c = λ k p.
    let a = same_text k c.args.key.now in
    let t = same_text p.1 c.args.text.now in
    let i = c.loop-value.value-index in
    let values = c.args.values.now in
    let later = is_among (drop (i + 1) values) p.0 in
    let now = has_pair (map.get c.loop-value.by_value k) p in
    let b = c.args.standing in
    ap (cond (a && (later && t)) b) (c.in_ok-change_value.ensures k p)
    ∙ merged a t later (same_text p.0 c.value-item.result) b now
    ∙ ap (λ q. cond (a && (q && t)) b now) (sym (value_next values i c.value-item.result c.loop-value-test.true c.value-item.is p.0))
    ∙ c.loop-value.invariant k p
