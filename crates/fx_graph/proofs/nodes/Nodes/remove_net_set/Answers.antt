use Rattle.std.proofs.Common.{sym, ◌∙◌, subst}
use Rattle.fx_graph.specs.Taking.{AreApart, unlabelled}
use Rattle.fx_label_index.specs.Tested.{IsTested}
use Rattle.fx_graph.proofs.nodes.Nodes.remove_net_set.Goals as goal

pub unlabel-requires-clause-apart : goal.unlabel-requires-clause-apart
unlabel-requires-clause-apart g c = subst (AreApart g.R.DigestRule.digest_of) (λ j. unlabelled c.args.key.now (sym c.in_ok-withdraw.ensures.taken j)) c.requires.apart

pub returns-clause-taken : goal.returns-clause-taken
returns-clause-taken g c = c.in_ok-unlabel.ensures.taken ∙ (λ j. unlabelled c.args.key.now (c.in_ok-withdraw.ensures.taken j))

pub returns-clause-beside : goal.returns-clause-beside
returns-clause-beside g c = record { waiting = c.in_ok-unlabel.ensures.beside.waiting ∙ c.in_ok-withdraw.ensures.beside.waiting; sent = c.in_ok-unlabel.ensures.beside.sent ∙ c.in_ok-withdraw.ensures.beside.sent }

pub returns-clause-tests : goal.returns-clause-tests
returns-clause-tests g c =
    subst (λ n. IsTested n c.unlabel.new.self.upper.joined.index (g.T.Ticker.number c.args.ticks.now) (g.T.Ticker.number c.unlabel.new.ticks))
    (c.in_ok-withdraw.ensures.index) c.in_ok-unlabel.ensures.tests
