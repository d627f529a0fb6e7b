use Rattle.std.proofs.Common.{true, false, ◌&&◌, Some, sym, ap, ◌∙◌}
use Rattle.std.specs.FinMap as map
use Rattle.fx_base.specs.Grouped.{same_text}
use Rattle.fx_label_rows.specs.Labelled.{same_item, has_both, has_label}
use Rattle.fx_label_rows.proofs.Exchanging.{at_one, unless_same, unless_other}
use Rattle.fx_label_rows.proofs.by_label.change_unless.Goals as goal

pub returns-then-has_value : goal.returns-then-has_value
returns-then-has_value c = λ k p.
    let key = c.args.key.now in
    let value = c.args.value.now in
    let others = c.args.others.now in
    unless_same (same_text k key && same_text p.0 value) (has_label (Some others) k p.0) (same_item p.1 c.args.item.now) c.args.standing (has_both (map.get c.args.by_key.now k) p)
    (λ e. at_one others k key p.0 value true (ap (λ q. has_label (Some others) q value) (sym c.bytes.ensures) ∙ sym c.has_value.ensures ∙ c.if-has_value.true) e)

pub returns : goal.returns
returns c = λ k p.
    let key = c.args.key.now in
    let value = c.args.value.now in
    let others = c.args.others.now in
    let item = c.args.item.now in
    let there = has_both (map.get c.args.by_key.now k) p in
    c.in_ok-change_one.ensures k p
    ∙ unless_other (same_text k key) (same_text p.0 value) (has_label (Some others) k p.0) (same_item p.1 item) c.args.standing there
    (λ e. at_one others k key p.0 value false (ap (λ q. has_label (Some others) q value) (sym c.bytes.ensures) ∙ sym c.has_value.ensures ∙ c.if-has_value.false) e)
