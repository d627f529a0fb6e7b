use Rattle.fx_label_index.proofs.Told.{then_stood, told}
use Rattle.fx_label_index.proofs.telling.tell.Goals as goal

pub set_each-requires-2 : goal.set_each-requires-2
set_each-requires-2 g c = λ t h.
    then_stood c.args.key.now c.args.before.now c.args.after.now (g.S.MatchSink.pairs c.args.sink.now) (g.S.MatchSink.pairs c.set_each.new.sink) c.requires c.in_ok-set_each.ensures t h

pub returns : goal.returns
returns g c = λ t i.
    told c.args.key.now c.args.before.now c.args.after.now (g.S.MatchSink.pairs c.args.sink.now) (g.S.MatchSink.pairs c.set_each.new.sink) c.requires c.in_ok-set_each.ensures (g.S.MatchSink.pairs c.set_each-2.new.sink) c.in_ok-set_each-2.ensures t i
