use Rattle.std.proofs.Common.{sym, ◌∙◌, subst}
use Rattle.std.specs.Prelude.{map as each}
use Rattle.std.specs.FinMap as map
use Rattle.fx_model.specs.Views.{profile_key}
use Rattle.fx_resolver.specs.Resolved.{HaveOwnInterfaces}
use Rattle.fx_graph.specs.Taking.{AreApart, labelled_served, with_local, contributing, taken_of}
use Rattle.fx_label_index.specs.Tested.{IsTested}
use Rattle.fx_graph.proofs.nodes.Nodes.put_served.Goals as goal

pub put_local-requires-clause-apart : goal.put_local-requires-clause-apart
put_local-requires-clause-apart g c =
    subst HaveOwnInterfaces
    (λ j. map.insert (sym c.in_ok-contribute.ensures.taken j).locals c.args.key.now (record { iface = c.args.endpoint.now.iface; profiles = each (profile_key g.R.DigestRule.digest_of) (sym c.as_slice-profiles.ensures j) }))
    c.requires.own

pub label_served-requires-clause-apart : goal.label_served-requires-clause-apart
label_served-requires-clause-apart g c =
    let s = c.as_slice-profiles.ensures in
    let q = c.in_ok-contribute.ensures.taken ∙ (λ j. contributing c.args.key.now (c.requires.item j) (taken_of c.args.self.now)) in
    let p = c.in_ok-put_local.ensures.taken ∙ (λ j. with_local c.args.key.now (record { iface = c.args.endpoint.now.iface; profiles = each (profile_key g.R.DigestRule.digest_of) (s j) }) (q j)) in
    subst (AreApart g.R.DigestRule.digest_of) (λ j. labelled_served c.args.key.now c.args.endpoint.now.labels (sym s j) (sym p j)) c.requires.apart

pub returns-clause-taken : goal.returns-clause-taken
returns-clause-taken g c =
    let s = c.as_slice-profiles.ensures in
    let q = c.in_ok-contribute.ensures.taken ∙ (λ j. contributing c.args.key.now (c.requires.item j) (taken_of c.args.self.now)) in
    let p = c.in_ok-put_local.ensures.taken ∙ (λ j. with_local c.args.key.now (record { iface = c.args.endpoint.now.iface; profiles = each (profile_key g.R.DigestRule.digest_of) (s j) }) (q j)) in
    c.in_ok-label_served.ensures.taken ∙ (λ j. labelled_served c.args.key.now c.args.endpoint.now.labels (s j) (p j))

pub returns-clause-beside : goal.returns-clause-beside
returns-clause-beside g c = record { waiting = c.in_ok-label_served.ensures.beside.waiting ∙ c.in_ok-put_local.ensures.beside.waiting ∙ c.in_ok-contribute.ensures.beside.waiting; sent = c.in_ok-label_served.ensures.beside.sent ∙ c.in_ok-put_local.ensures.beside.sent ∙ c.in_ok-contribute.ensures.beside.sent }

pub returns-clause-tests : goal.returns-clause-tests
returns-clause-tests g c =
    subst (λ n. IsTested n c.label_served.new.self.upper.joined.index (g.T.Ticker.number c.args.ticks.now) (g.T.Ticker.number c.label_served.new.ticks))
    (c.in_ok-put_local.ensures.index ∙ c.in_ok-contribute.ensures.index) c.in_ok-label_served.ensures.tests
