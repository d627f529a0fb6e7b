use Rattle.std.proofs.Common.{cond, sym, ap, ◌∙◌}
use Rattle.std.specs.Cmp.Lexicographic.{nat_list_cmp_total}
use Rattle.fx_base.specs.Set as set
use Rattle.fx_base.proofs.SetAt.{contains_insert, contains_remove}
use Rattle.fx_base.specs.Grouped.{same_text}
use Rattle.fx_label_rows.proofs.item_texts.hold_text.Goals as goal

pub returns-in_ok-insert : goal.returns-in_ok-insert
returns-in_ok-insert c = λ t.
    ap (λ s. set.contains s t) (c.in_ok-insert.ensures.ok ∙ ap (set.insert c.args.texts.now) c.in_ok-clone.ensures.cases)
    ∙ contains_insert nat_list_cmp_total c.args.texts.now c.args.text.now t
    ∙ ap (λ b. cond (same_text t c.args.text.now) b (set.contains c.args.texts.now t)) (sym c.if-holds.true)

pub returns-else-holds : goal.returns-else-holds
returns-else-holds c = λ t.
    ap (λ s. set.contains s t) c.remove.ensures.removed
    ∙ contains_remove nat_list_cmp_total c.args.texts.now c.args.text.now t
    ∙ ap (λ b. cond (same_text t c.args.text.now) b (set.contains c.args.texts.now t)) (sym c.if-holds.false)
