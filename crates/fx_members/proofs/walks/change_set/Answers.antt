use Rattle.std.proofs.Common.{cond, Some, None, refl, ap, sym, ◌∙◌}
use Rattle.fx_members.specs.Counts.{count_at, due}
use Rattle.fx_base.specs.Grouped.{same_text}
use Rattle.fx_members.proofs.WalkLemmas.{due_by_keys, due_nowhere, nothing_due}
use Rattle.fx_members.proofs.walks.change_set.Goals as goal

pub change_each_item-requires-clause-counted : goal.change_each_item-requires-clause-counted
change_each_item-requires-clause-counted g c = λ m.
    let n = c.args.inputs.now in
    let keys = c.in-Some.keys.now in
    c.requires.counted m
    ∙ ap (cond c.args.more 0) (due_by_keys n.items n.matched c.args.set.now c.args.text.now c.requires.text (Some keys) c.in-Some.ensures keys refl m)

pub returns-in_default-clause-counts : goal.returns-in_default-clause-counts
returns-in_default-clause-counts g c =
    let n = c.args.inputs.now in
    nothing_due c.args.more c.args.counts.now c.args.name (due n.items n.matched (Some c.args.set.now))
    (due_nowhere n.items n.matched c.args.set.now c.args.text.now c.requires.text None c.in_default.ensures refl) c.requires.counted

pub returns-in_ok-change_each_item-clause-counts : goal.returns-in_ok-change_each_item-clause-counts
returns-in_ok-change_each_item-clause-counts g c = λ q m.
    let n = c.args.inputs.now in
    let keys = c.in-Some.keys.now in
    c.in_ok-change_each_item.ensures.counts q m
    ∙ ap (λ k. cond (same_text q c.args.name) (cond c.args.more k 0) (count_at c.args.counts.now q m))
    (sym (due_by_keys n.items n.matched c.args.set.now c.args.text.now c.requires.text (Some keys) c.in-Some.ensures keys refl m))
