use Rattle.std.proofs.Common.{cond, ◌&&◌, unwrap_or, sym, ap, ◌∙◌}
use Rattle.std.specs.FinMap as map
use Rattle.fx_base.specs.Grouped.{has_key, same_text}
use Rattle.fx_label_rows.proofs.TextLemmas.{row_put, row_gone, texts_found, none_left}
use Rattle.std.specs.Cmp.Lexicographic.{nat_list_cmp_total}
use Rattle.fx_base.proofs.KeyCases.{bytes_exact}
use Rattle.fx_label_rows.proofs.text_rows.TextRows.change.Goals as goal

pub returns-then-len-eq0 : goal.returns-then-len-eq0
returns-then-len-eq0 c = λ k t.
    let m = c.self.inside.held in
    let key = c.args.key.now in
    let text = c.args.text.now in
    let texts = c.unwrap_or-texts.ensures ∙ (λ j. unwrap_or (c.remove.ensures.before j) (c.new.ensures j)) in
    row_gone nat_list_cmp_total bytes_exact has_key (λ q. same_text q text) c.args.standing m key c.remove.new.self c.remove.ensures.removed
    (λ q. sym (none_left c.set_text.new.texts q (sym c.len.ensures ∙ search)) ∙ c.in_ok-set_text.ensures q ∙ ap (cond (same_text q text) c.args.standing) (texts_found (map.get m key) c.unwrap_or-texts.result q texts)) k t
    ∙ ap (λ n. cond (same_text k key && same_text t text) c.args.standing (has_key (map.get n k) t)) c.self.view_is

pub returns : goal.returns
returns c = λ k t.
    let m = c.self.inside.held in
    let key = c.args.key.now in
    let text = c.args.text.now in
    let texts = c.unwrap_or-texts.ensures ∙ (λ j. unwrap_or (c.remove.ensures.before j) (c.new.ensures j)) in
    row_put nat_list_cmp_total bytes_exact has_key (λ q. same_text q text) c.args.standing m key c.set_text.new.texts c.insert.new.self
    (c.in_ok-insert.ensures.ok ∙ (λ j. map.insert (c.remove.ensures.removed j) (c.in_ok-clone.ensures.cases j) c.set_text.new.texts))
    (λ q. c.in_ok-set_text.ensures q ∙ ap (cond (same_text q text) c.args.standing) (texts_found (map.get m key) c.unwrap_or-texts.result q texts)) k t
    ∙ ap (λ n. cond (same_text k key && same_text t text) c.args.standing (has_key (map.get n k) t)) c.self.view_is
