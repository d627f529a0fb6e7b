use Rattle.fx_graph.proofs.Following.{kind_of_put, short_of_put, served_put_own, served_put_apart, served_here, after_put_served}
use Rattle.fx_graph.proofs.state.GraphState.put_served.Goals as goal

pub put_served-requires-clause-settled : goal.put_served-requires-clause-settled
put_served-requires-clause-settled g c = c.requires.resources.1.0.nodes.settled

pub put_served-requires-clause-short : goal.put_served-requires-clause-short
put_served-requires-clause-short g c = short_of_put c.args.key.now c.args.endpoint.now c.requires.update

pub put_served-requires-clause-own : goal.put_served-requires-clause-own
put_served-requires-clause-own g c = served_put_own g.R.DigestRule.digest_of c.requires.resources.0 c.args.self.now c.requires.resources.1.0 c.args.key.now c.args.endpoint.now (kind_of_put c.args.key.now c.args.endpoint.now c.requires.update)
    (served_here g.R.DigestRule.digest_of c.requires.resources.0 c.args.self.now c.requires.resources.1.0 c.args.endpoint.now c.requires.local c.requires.ready) c.requires.resources.1.1

pub put_served-requires-clause-apart : goal.put_served-requires-clause-apart
put_served-requires-clause-apart g c = served_put_apart g.R.DigestRule.digest_of c.requires.resources.0 c.args.self.now c.requires.resources.1.0 c.args.key.now c.args.endpoint.now (kind_of_put c.args.key.now c.args.endpoint.now c.requires.update)
    (served_here g.R.DigestRule.digest_of c.requires.resources.0 c.args.self.now c.requires.resources.1.0 c.args.endpoint.now c.requires.local c.requires.ready) c.requires.resources.1.1

pub returns-clause-follows : goal.returns-clause-follows
returns-clause-follows g c = λ R h. after_put_served g.R.DigestRule.digest_of R c.args.self.now h _ c.in_ok-put_served.ensures.settled c.args.key.now c.args.endpoint.now (kind_of_put c.args.key.now c.args.endpoint.now c.requires.update) c.requires.local c.requires.ready c.in_ok-put_served.ensures.taken c.in_ok-put_served.ensures.beside.waiting
