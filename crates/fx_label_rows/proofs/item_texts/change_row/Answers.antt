use Rattle.std.proofs.Common.{cond, unwrap_or, ap, ◌∙◌}
use Rattle.std.specs.FinMap as map
use Rattle.fx_base.specs.Grouped.{has_key, same_text}
use Rattle.fx_model.specs.SameIds.{copies_item}
use Rattle.fx_model.proofs.Orders.{item_total, exact_item}
use Rattle.fx_label_rows.proofs.TextLemmas.{row_put, texts_found}
use Rattle.fx_label_rows.proofs.item_texts.change_row.Goals as goal

pub returns : goal.returns
returns c = λ i t.
    let m = c.args.rows.now in
    let item = c.args.item.now in
    let text = c.args.text.now in
    let texts = c.unwrap_or-texts.ensures ∙ (λ j. unwrap_or (c.remove.ensures.before j) (c.new.ensures j)) in
    row_put item_total exact_item has_key (λ q. same_text q text) c.args.holds m item c.hold_text.new.texts c.insert.new.self
    (c.in_ok-insert.ensures.ok ∙ (λ j. map.insert (c.remove.ensures.removed j) (copies_item _ _ c.in_ok-clone.ensures.cases j) c.hold_text.new.texts))
    (λ q. c.in_ok-hold_text.ensures q ∙ ap (cond (same_text q text) c.args.holds) (texts_found (map.get m item) c.unwrap_or-texts.result q texts)) i t
