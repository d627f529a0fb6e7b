use Rattle.std.proofs.Common.{◌&&◌, cond, sym, ap, ◌∙◌}
use Rattle.std.specs.Option.{option_copied}
use Rattle.fx_base.specs.Set as set
use Rattle.fx_model.specs.declared.ids.ItemKey.{ItemKey}
use Rattle.fx_active.specs.Active.{applies_to}
use Rattle.fx_active.specs.Steps.{same_id}
use Rattle.fx_active.proofs.PairWalk.{still_paired, row_set}
use Rattle.fx_active.proofs.pairs.update_policy.Goals as goal

pub update_row-requires : goal.update_row-requires
update_row-requires g c = λ i h. c.requires i

pub update_row-requires-2 : goal.update_row-requires-2
update_row-requires-2 g c = λ i h.
    let E = c.args.held.now.endpoints in
    let M = c.args.held.now.matched in
    let id = c.args.id.now in
    let before = λ (i : ItemKey). applies_to E M (option_copied c.args.before) i in
    let after = λ (i : ItemKey). applies_to E M (option_copied c.args.after) i in
    let s = g.S.ActiveSink.pairs c.args.sink.now in
    let s' = g.S.ActiveSink.pairs c.update_row.new.sink in
    still_paired before after id s s' s' c.requires
    (λ q k. c.in_ok-update_row.ensures.pairs q k ∙ ap (λ b. cond (same_id q id && b) (after k) (set.contains s (q, k))) (c.row_of.ensures k))
    i (sym (c.row_of-2.ensures i) ∙ h)

pub returns-clause-pairs : goal.returns-clause-pairs
returns-clause-pairs g c =
    let E = c.args.held.now.endpoints in
    let M = c.args.held.now.matched in
    let id = c.args.id.now in
    let before = λ (i : ItemKey). applies_to E M (option_copied c.args.before) i in
    let after = λ (i : ItemKey). applies_to E M (option_copied c.args.after) i in
    let s = g.S.ActiveSink.pairs c.args.sink.now in
    let s' = g.S.ActiveSink.pairs c.update_row.new.sink in
    let s'' = g.S.ActiveSink.pairs c.update_row-2.new.sink in
    row_set before after id s s' s'' c.requires
    (λ q k. c.in_ok-update_row.ensures.pairs q k ∙ ap (λ b. cond (same_id q id && b) (after k) (set.contains s (q, k))) (c.row_of.ensures k))
    (λ q k. c.in_ok-update_row-2.ensures.pairs q k ∙ ap (λ b. cond (same_id q id && b) (after k) (set.contains s' (q, k))) (c.row_of-2.ensures k))
