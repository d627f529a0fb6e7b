use Rattle.std.proofs.Common.{None, refl}
use Rattle.fx_graph.specs.Taking.{taken_of}
use Rattle.fx_graph.proofs.Kept.{settled_members}
use Rattle.fx_graph.proofs.nodes.Nodes.withdraw.Goals as goal

pub returns-clause-taken : goal.returns-clause-taken
returns-clause-taken g c = (λ j. record (taken_of c.args.self.now) { contributors = (c.in_ok-remove_item.ensures.inputs j).items })

pub returns-clause-beside : goal.returns-clause-beside
returns-clause-beside g c = record { waiting = refl; sent = c.in_ok-remove_item.ensures.beside.sent }

pub returns-clause-settled : goal.returns-clause-settled
returns-clause-settled g c =
    let m = c.in_ok-remove_item.ensures in
    settled_members g.R.DigestRule.digest_of None c.args.self.now c.requires _ _ (λ j. (m.inputs j).uses) (λ j. (m.inputs j).matched) m.members m.beside
