use Rattle.felix_host.proofs.NodeLemmas.{followed-after}
use Rattle.felix_host.proofs.node.HostNode.take.Goals as goal

pub returns-clause-followed : goal.returns-clause-followed
returns-clause-followed g c =
    let was = c.args.self.now in
    let made = c.in_ok-update.ensures in
    followed-after g.R.DigestRule.digest_of was.engine c.update.new.self was.view c.requires.followed c.args.update c.requires.formed made.free made.resources made.sent made.stays
