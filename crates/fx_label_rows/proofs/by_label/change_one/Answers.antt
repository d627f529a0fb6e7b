use Rattle.std.proofs.Common.{Option, cond, ◌&&◌, unwrap_or, sym, ap, ◌∙◌}
use Rattle.std.specs.Cmp.Lexicographic.{nat_list_cmp_total}
use Rattle.std.specs.FinMap as map
use Rattle.fx_base.specs.Grouped.{has_key, same_text}
use Rattle.fx_base.proofs.KeyCases.{bytes_exact}
use Rattle.fx_label_rows.specs.Labelled.{ItemSet, same_item, has_both}
use Rattle.fx_label_rows.proofs.ItemLemmas.{values_found}
use Rattle.fx_label_rows.proofs.TextLemmas.{row_put, row_gone, empty_at}
use Rattle.fx_label_rows.proofs.by_label.change_one.Goals as goal

pub returns-then-is_empty : goal.returns-then-is_empty
returns-then-is_empty c = λ k p.
    let m = c.args.by_key.now in
    let key = c.args.key.now in
    let value = c.args.value.now in
    let item = c.args.item.now in
    let rows = c.unwrap_or-rows.ensures ∙ (λ j. unwrap_or (c.remove.ensures.before j) (c.new.ensures j)) in
    row_gone nat_list_cmp_total bytes_exact has_both (λ q. same_text q.0 value && same_item q.1 item) c.args.standing m key c.remove.new.self c.remove.ensures.removed
    (λ q. sym (ap (λ (o : Option ItemSet). has_key o q.1) (empty_at c.change.new.self (c.is_empty.ensures.0 search) q.0)) ∙ c.in_ok-change.ensures q.0 q.1
    ∙ ap (cond (same_text q.0 value && same_item q.1 item) c.args.standing) (values_found (map.get m key) c.unwrap_or-rows.result q rows)) k p

pub returns : goal.returns
returns c = λ k p.
    let m = c.args.by_key.now in
    let key = c.args.key.now in
    let value = c.args.value.now in
    let item = c.args.item.now in
    let rows = c.unwrap_or-rows.ensures ∙ (λ j. unwrap_or (c.remove.ensures.before j) (c.new.ensures j)) in
    row_put nat_list_cmp_total bytes_exact has_both (λ q. same_text q.0 value && same_item q.1 item) c.args.standing m key c.change.new.self c.insert.new.self
    (c.in_ok-insert.ensures.ok ∙ (λ j. map.insert (c.remove.ensures.removed j) (c.in_ok-clone.ensures.cases j) c.change.new.self))
    (λ q. c.in_ok-change.ensures q.0 q.1
    ∙ ap (cond (same_text q.0 value && same_item q.1 item) c.args.standing) (values_found (map.get m key) c.unwrap_or-rows.result q rows)) k p
