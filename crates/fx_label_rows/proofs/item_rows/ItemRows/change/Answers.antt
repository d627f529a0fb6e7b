use Rattle.std.proofs.Common.{cond, ◌&&◌, is_some, unwrap_or, sym, ap, ◌∙◌}
use Rattle.std.specs.Cmp.Lexicographic.{nat_list_cmp_total}
use Rattle.std.specs.FinMap as map
use Rattle.fx_base.specs.Grouped.{has_key, same_text}
use Rattle.fx_base.proofs.KeyCases.{bytes_exact}
use Rattle.fx_label_rows.specs.Labelled.{same_item}
use Rattle.fx_label_rows.proofs.ItemLemmas.{items_found}
use Rattle.fx_label_rows.proofs.TextLemmas.{row_put, row_gone, empty_at}
use Rattle.fx_label_rows.proofs.item_rows.ItemRows.change.Goals as goal

pub returns-then-is_empty : goal.returns-then-is_empty
returns-then-is_empty c = λ t i.
    let m = c.self.inside.held in
    let text = c.args.text.now in
    let key = c.args.key.now in
    let items = c.unwrap_or-items.ensures ∙ (λ j. unwrap_or (c.remove.ensures.before j) (c.new.ensures j)) in
    row_gone nat_list_cmp_total bytes_exact has_key (λ q. same_item q key) c.args.standing m text c.remove.new.self c.remove.ensures.removed
    (λ q. sym (ap is_some (empty_at c.set_item.new.items (c.is_empty.ensures.0 search) q)) ∙ c.in_ok-set_item.ensures q ∙ ap (cond (same_item q key) c.args.standing) (items_found (map.get m text) c.unwrap_or-items.result q items)) t i
    ∙ ap (λ n. cond (same_text t text && same_item i key) c.args.standing (has_key (map.get n t) i)) c.self.view_is

pub returns : goal.returns
returns c = λ t i.
    let m = c.self.inside.held in
    let text = c.args.text.now in
    let key = c.args.key.now in
    let items = c.unwrap_or-items.ensures ∙ (λ j. unwrap_or (c.remove.ensures.before j) (c.new.ensures j)) in
    row_put nat_list_cmp_total bytes_exact has_key (λ q. same_item q key) c.args.standing m text c.set_item.new.items c.insert.new.self
    (c.in_ok-insert.ensures.ok ∙ (λ j. map.insert (c.remove.ensures.removed j) (c.in_ok-clone.ensures.cases j) c.set_item.new.items))
    (λ q. c.in_ok-set_item.ensures q ∙ ap (cond (same_item q key) c.args.standing) (items_found (map.get m text) c.unwrap_or-items.result q items)) t i
    ∙ ap (λ n. cond (same_text t text && same_item i key) c.args.standing (has_key (map.get n t) i)) c.self.view_is
