use Rattle.std.proofs.Common.{sym, ◌∙◌, subst}
use Rattle.fx_graph.specs.Taking.{AreApart, labelled_other, without_local, contributing, taken_of}
use Rattle.fx_label_index.specs.Tested.{IsTested}
use Rattle.fx_graph.proofs.nodes.Nodes.put_other.Goals as goal

pub label_other-requires-clause-apart : goal.label_other-requires-clause-apart
label_other-requires-clause-apart g c =
    let s = c.as_slice-profiles.ensures in
    let q = c.in_ok-contribute.ensures.taken ∙ (λ j. contributing c.args.key.now (c.requires.item j) (taken_of c.args.self.now)) in
    let p = c.in_ok-remove_local.ensures.taken ∙ (λ j. without_local c.args.key.now (q j)) in
    subst (AreApart g.R.DigestRule.digest_of) (λ j. labelled_other c.args.key.now c.args.endpoint.now.labels (sym s j) (sym p j)) c.requires.apart

pub returns-clause-taken : goal.returns-clause-taken
returns-clause-taken g c =
    let s = c.as_slice-profiles.ensures in
    let q = c.in_ok-contribute.ensures.taken ∙ (λ j. contributing c.args.key.now (c.requires.item j) (taken_of c.args.self.now)) in
    let p = c.in_ok-remove_local.ensures.taken ∙ (λ j. without_local c.args.key.now (q j)) in
    c.in_ok-label_other.ensures.taken ∙ (λ j. labelled_other c.args.key.now c.args.endpoint.now.labels (s j) (p j))

pub returns-clause-beside : goal.returns-clause-beside
returns-clause-beside g c = record { waiting = c.in_ok-label_other.ensures.beside.waiting ∙ c.in_ok-remove_local.ensures.beside.waiting ∙ c.in_ok-contribute.ensures.beside.waiting; sent = c.in_ok-label_other.ensures.beside.sent ∙ c.in_ok-remove_local.ensures.beside.sent ∙ c.in_ok-contribute.ensures.beside.sent }

pub returns-clause-tests : goal.returns-clause-tests
returns-clause-tests g c =
    subst (λ n. IsTested n c.label_other.new.self.upper.joined.index (g.T.Ticker.number c.args.ticks.now) (g.T.Ticker.number c.label_other.new.ticks))
    (c.in_ok-remove_local.ensures.index ∙ c.in_ok-contribute.ensures.index) c.in_ok-label_other.ensures.tests
