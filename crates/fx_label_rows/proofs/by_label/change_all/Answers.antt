use Rattle.std.specs.Slice.Iter.{iter_rest}
use Rattle.std.proofs.Common.{◌≡◌, ℕ, ◌&&◌, cond, List, Some, ap, ◌∙◌, subst}
use Rattle.std.specs.FinMap as map
use Rattle.fx_model.specs.declared.ids.ItemKey.{ItemKey}
use Rattle.fx_label_rows.specs.Labelled.{same_item, has_both, has_entry, has_label}
use Rattle.fx_label_rows.proofs.ItemLemmas.{label_next, entries_label}
use Rattle.fx_label_rows.proofs.by_label.change_all.Goals as goal

pub loop-key-init : goal.loop-key-init
loop-key-init c = λ k p.
    let there = has_both (map.get c.args.by_key.now k) p in
    ap (λ es. cond (has_entry es k p.0 && same_item p.1 c.args.item.now) c.args.standing there) (ap iter_rest c.into_iter-key-iterator.ensures.into_iter_gives ∙ c.iter-key-items.ensures)
    ∙ ap (λ b. cond (b && same_item p.1 c.args.item.now) c.args.standing there) (entries_label c.args.labels.now k p.0)

pub loop-key-preserved : goal.loop-key-preserved
loop-key-preserved c =
    let item = c.args.item.now in
    let whole = subst (λ es. (k : List ℕ) (p : List ℕ × ItemKey) → cond (has_entry es k p.0 && same_item p.1 item) c.args.standing (has_both (map.get c.loop-key.by_key k) p) ≡ cond (has_label (Some c.args.labels.now) k p.0 && same_item p.1 item) c.args.standing (has_both (map.get c.args.by_key.now k) p)) c.in-Some.ensures.steps c.loop-key.invariant in
    label_next c.loop-key.by_key c.change_one.new.by_key c.in-Some.field-0.now.0 c.in-Some.field-0.now.1 item c.args.standing _ (λ k p. cond (has_label (Some c.args.labels.now) k p.0 && same_item p.1 item) c.args.standing (has_both (map.get c.args.by_key.now k) p)) whole c.in_ok-change_one.ensures
