use Rattle.std.proofs.Common.{unwrap_or, ◌∙◌}
use Rattle.std.specs.FinMap as map
use Rattle.fx_base.proofs.AtKey.{insert_removed}
use Rattle.fx_model.specs.SameIds.{copies_item}
use Rattle.fx_model.proofs.Orders.{item_total, exact_item}
use Rattle.fx_label_index.proofs.Told.{before_stood, told_put}
use Rattle.fx_label_index.proofs.telling.tell_item.Goals as goal

pub tell-requires : goal.tell-requires
tell-requires g c = λ t.
    before_stood c.args.rows.now c.args.key.now (g.S.MatchSink.pairs c.args.sink.now) (g.S.MatchSink.pairs c.args.sink.now) c.requires c.unwrap_or-before.result
    (c.unwrap_or-before.ensures ∙ (λ j. unwrap_or (c.remove.ensures.before j) (c.new.ensures j))) t

pub returns-clause-rows : goal.returns-clause-rows
returns-clause-rows g c =
    c.in_ok-insert.ensures.ok ∙ (λ j. map.insert (c.remove.ensures.removed j) (copies_item _ _ c.in_ok-clone.ensures.cases j) c.args.after)
    ∙ insert_removed item_total exact_item c.args.rows.now c.args.key.now c.args.after

pub returns-clause-told : goal.returns-clause-told
returns-clause-told g c =
    told_put c.args.rows.now c.args.key.now (g.S.MatchSink.pairs c.args.sink.now) (g.S.MatchSink.pairs c.tell.new.sink) c.requires c.args.after c.insert.new.self c.in_ok-tell.ensures
    (c.in_ok-insert.ensures.ok ∙ (λ j. map.insert (c.remove.ensures.removed j) (copies_item _ _ c.in_ok-clone.ensures.cases j) c.args.after)
    ∙ insert_removed item_total exact_item c.args.rows.now c.args.key.now c.args.after)
