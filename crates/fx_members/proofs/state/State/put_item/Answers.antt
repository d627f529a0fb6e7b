use Rattle.std.proofs.Common.{sym, ap, ◌∙◌}
use Rattle.std.specs.FinMap as map
use Rattle.fx_members.specs.Giving.{gives_same}
use Rattle.fx_members.proofs.GivenLemmas.{same_gives}
use Rattle.fx_members.proofs.state.State.put_item.Goals as goal

pub keep_given-requires-clause-same : goal.keep_given-requires-clause-same
keep_given-requires-clause-same g c =
    same_gives (map.get c.args.self.now.inputs.items c.args.key.now) c.args.item
    (ap (λ o. gives_same o c.args.item) (sym c.get.ensures) ∙ sym c.gives_same.ensures ∙ c.if-gives_same.true)

pub returns-then-gives_same-clause-told : goal.returns-then-gives_same-clause-told
returns-then-gives_same-clause-told g c = c.in_ok-keep_given.ensures.told (g.S.SetSink.sets c.args.sink.now) c.requires.told
