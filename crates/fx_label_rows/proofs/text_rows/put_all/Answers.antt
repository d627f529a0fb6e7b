use Rattle.std.proofs.Common.{◌≡◌, ◌||◌, ℕ, List, map, sym, ap, ◌∙◌, subst}
use Rattle.std.specs.List.{list_any}
use Rattle.std.specs.FinMap.{contains_key-keys}
use Rattle.fx_base.specs.Set as set
use Rattle.fx_base.specs.Grouped.{same_text}
use Rattle.fx_label_rows.proofs.TextLemmas.{put_next}
use Rattle.fx_label_rows.proofs.text_rows.put_all.Goals as goal

pub loop-text-init : goal.loop-text-init
loop-text-init c = λ t.
    ap (λ es. list_any (same_text t) (map (λ e. e.0) es) || set.contains c.args.texts.now t) (c.into_iter-text-iterator.ensures.into_iter_gives ∙ c.iter-text-items.ensures)
    ∙ ap (λ b. b || set.contains c.args.texts.now t) (sym (contains_key-keys c.args.more.now t))

pub loop-text-preserved : goal.loop-text-preserved
loop-text-preserved c =
    let whole = subst (λ es. (t : List ℕ) → (list_any (same_text t) (map (λ e. e.0) es) || set.contains c.loop-text.texts t) ≡ (set.contains c.args.more.now t || set.contains c.args.texts.now t)) c.in-Some.ensures.steps c.loop-text.invariant in
    put_next c.loop-text.texts c.insert.new.self _ _ _ (λ t. set.contains c.args.more.now t || set.contains c.args.texts.now t) whole
    (c.in_ok-insert.ensures.ok ∙ ap (set.insert c.loop-text.texts) c.in_ok-clone.ensures.cases)
