use Rattle.std.proofs.Common.{None, refl}
use Rattle.fx_graph.specs.Taking.{taken_of}
use Rattle.fx_graph.proofs.Kept.{settled_resolver}
use Rattle.fx_graph.proofs.nodes.Nodes.remove_local.Goals as goal

pub returns-clause-taken : goal.returns-clause-taken
returns-clause-taken g c = (λ j. record (taken_of c.args.self.now) { tiers = (c.in_ok-remove_endpoint.ensures.inputs j).tiers; locals = (c.in_ok-remove_endpoint.ensures.inputs j).endpoints })

pub returns-clause-beside : goal.returns-clause-beside
returns-clause-beside g c = record { waiting = refl; sent = c.in_ok-remove_endpoint.ensures.beside.sent }

pub returns-clause-settled : goal.returns-clause-settled
returns-clause-settled g c =
    let r = c.in_ok-remove_endpoint.ensures in
    settled_resolver g.R.DigestRule.digest_of None c.args.self.now c.requires _ _ (λ j. (r.inputs j).policies) (λ j. (r.inputs j).pairs) r.resolved r.beside r.policies r.profiles
