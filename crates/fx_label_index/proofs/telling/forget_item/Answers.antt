use Rattle.std.proofs.Common.{unwrap_or, ◌∙◌}
use Rattle.fx_label_index.proofs.Told.{before_stood, told_gone}
use Rattle.fx_label_index.proofs.telling.forget_item.Goals as goal

pub tell-requires : goal.tell-requires
tell-requires g c = λ t.
    before_stood c.args.rows.now c.args.key.now (g.S.MatchSink.pairs c.args.sink.now) (g.S.MatchSink.pairs c.args.sink.now) c.requires c.unwrap_or-before.result
    (c.unwrap_or-before.ensures ∙ (λ j. unwrap_or (c.remove.ensures.before j) (c.new.ensures j))) t

pub returns-clause-told : goal.returns-clause-told
returns-clause-told g c =
    told_gone c.args.rows.now c.args.key.now (g.S.MatchSink.pairs c.args.sink.now) (g.S.MatchSink.pairs c.tell.new.sink) c.requires c.new-none.result c.remove.new.self c.in_ok-tell.ensures c.new-none.ensures c.remove.ensures.removed
