use Rattle.felix_host.proofs.NodeLemmas.{followed-on}
use Rattle.felix_host.proofs.node.HostNode.bring.Goals as goal

pub take_all-requires-clause-told : goal.take_all-requires-clause-told
take_all-requires-clause-told g c = c.requires.followed.told

pub take_all-requires-clause-ready : goal.take_all-requires-clause-ready
take_all-requires-clause-ready g c = c.requires.followed.ready

pub returns-clause-followed : goal.returns-clause-followed
returns-clause-followed g c =
    let was = c.args.self.now in
    let now = c.take_all.new in
    let took = c.in_ok-take_all.ensures in
    followed-on g.R.DigestRule.digest_of was.engine now.engine was.view now.view c.requires.followed took.resources took.told took.reached took.ready
