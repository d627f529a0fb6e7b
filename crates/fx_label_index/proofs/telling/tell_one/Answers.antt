use Rattle.std.proofs.Common.{sym, ap, ◌∙◌}
use Rattle.fx_base.specs.Grouped.{has_key}
use Rattle.fx_label_index.proofs.Told.{told_one}
use Rattle.fx_label_index.proofs.telling.tell_one.Goals as goal

pub set_pair-requires : goal.set_pair-requires
set_pair-requires g c =
    c.requires c.args.text.now c.args.key.now ∙ ap (λ o. has_key o c.args.text.now) (sym c.get.ensures) ∙ sym c.has_text-stood.ensures

pub returns-clause-told : goal.returns-clause-told
returns-clause-told g c =
    told_one c.args.rows.now c.args.key.now (g.S.MatchSink.pairs c.args.sink.now) (g.S.MatchSink.pairs c.set_pair.new.sink) c.requires c.args.text.now c.args.stands c.change_row.new.rows c.in_ok-set_pair.ensures c.in_ok-change_row.ensures
