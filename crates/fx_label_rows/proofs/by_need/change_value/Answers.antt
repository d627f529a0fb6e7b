use Rattle.std.proofs.Common.{cond, ◌&&◌, unwrap_or, ap, ◌∙◌}
use Rattle.std.specs.FinMap as map
use Rattle.fx_label_rows.specs.TextGroups.{has_pair}
use Rattle.fx_base.specs.Grouped.{same_text}
use Rattle.fx_label_rows.proofs.TextLemmas.{row_put, rows_found}
use Rattle.std.specs.Cmp.Lexicographic.{nat_list_cmp_total}
use Rattle.fx_base.proofs.KeyCases.{bytes_exact}
use Rattle.fx_label_rows.proofs.by_need.change_value.Goals as goal

pub returns : goal.returns
returns c = λ k p.
    let m = c.args.by_value.now in
    let key = c.args.key.now in
    let value = c.args.value.now in
    let text = c.args.text.now in
    let rows = c.unwrap_or-rows.ensures ∙ (λ j. unwrap_or (c.remove.ensures.before j) (c.new.ensures j)) in
    row_put nat_list_cmp_total bytes_exact has_pair (λ q. same_text q.0 value && same_text q.1 text) c.args.standing m key c.change.new.self c.insert.new.self
    (c.in_ok-insert.ensures.ok ∙ (λ j. map.insert (c.remove.ensures.removed j) (c.in_ok-clone.ensures.cases j) c.change.new.self))
    (λ q. c.in_ok-change.ensures q.0 q.1
    ∙ ap (cond (same_text q.0 value && same_text q.1 text) c.args.standing) (rows_found (map.get m key) c.unwrap_or-rows.result q rows)) k p
