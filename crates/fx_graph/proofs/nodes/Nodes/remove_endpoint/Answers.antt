use Rattle.std.proofs.Common.{sym, ◌∙◌, subst}
use Rattle.fx_graph.specs.Taking.{AreApart, unlabelled, without_local}
use Rattle.fx_label_index.specs.Tested.{IsTested}
use Rattle.fx_graph.proofs.nodes.Nodes.remove_endpoint.Goals as goal

pub unlabel-requires-clause-apart : goal.unlabel-requires-clause-apart
unlabel-requires-clause-apart g c =
    let p = c.in_ok-remove_local.ensures.taken ∙ (λ j. without_local c.args.key.now (c.in_ok-withdraw.ensures.taken j)) in
    subst (AreApart g.R.DigestRule.digest_of) (λ j. unlabelled c.args.key.now (sym p j)) c.requires.apart

pub returns-clause-taken : goal.returns-clause-taken
returns-clause-taken g c =
    let p = c.in_ok-remove_local.ensures.taken ∙ (λ j. without_local c.args.key.now (c.in_ok-withdraw.ensures.taken j)) in
    c.in_ok-unlabel.ensures.taken ∙ (λ j. unlabelled c.args.key.now (p j))

pub returns-clause-beside : goal.returns-clause-beside
returns-clause-beside g c = record { waiting = c.in_ok-unlabel.ensures.beside.waiting ∙ c.in_ok-remove_local.ensures.beside.waiting ∙ c.in_ok-withdraw.ensures.beside.waiting; sent = c.in_ok-unlabel.ensures.beside.sent ∙ c.in_ok-remove_local.ensures.beside.sent ∙ c.in_ok-withdraw.ensures.beside.sent }

pub returns-clause-tests : goal.returns-clause-tests
returns-clause-tests g c =
    subst (λ n. IsTested n c.unlabel.new.self.upper.joined.index (g.T.Ticker.number c.args.ticks.now) (g.T.Ticker.number c.unlabel.new.ticks))
    (c.in_ok-remove_local.ensures.index ∙ c.in_ok-withdraw.ensures.index) c.in_ok-unlabel.ensures.tests
