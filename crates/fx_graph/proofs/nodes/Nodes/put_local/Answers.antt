use Rattle.std.proofs.Common.{None, refl, ◌∙◌}
use Rattle.fx_graph.specs.Taking.{with_local, taken_of}
use Rattle.fx_graph.proofs.Kept.{settled_resolver}
use Rattle.fx_graph.proofs.nodes.Nodes.put_local.Goals as goal

pub returns-clause-taken : goal.returns-clause-taken
returns-clause-taken g c =
    (λ j. record (taken_of c.args.self.now) { tiers = (c.in_ok-put_endpoint.ensures.inputs j).tiers; locals = (c.in_ok-put_endpoint.ensures.inputs j).endpoints })
    ∙ (λ j. with_local c.args.key.now (record { iface = c.args.iface.now; profiles = (c.deref.ensures.value ∙ c.in_ok-keys.ensures) j }) (taken_of c.args.self.now))

pub returns-clause-beside : goal.returns-clause-beside
returns-clause-beside g c = record { waiting = refl; sent = c.in_ok-put_endpoint.ensures.beside.sent }

pub returns-clause-settled : goal.returns-clause-settled
returns-clause-settled g c =
    let r = c.in_ok-put_endpoint.ensures in
    settled_resolver g.R.DigestRule.digest_of None c.args.self.now c.requires.settled _ _ (λ j. (r.inputs j).policies) (λ j. (r.inputs j).pairs) r.resolved r.beside r.policies r.profiles
