use Rattle.fx_graph.proofs.Following.{kind_of_set_put, set_put_apart, after_set_put}
use Rattle.fx_graph.proofs.state.GraphState.put_net_set.Goals as goal

pub put_net_set-requires-clause-settled : goal.put_net_set-requires-clause-settled
put_net_set-requires-clause-settled g c = c.requires.resources.1.0.nodes.settled

pub put_net_set-requires-clause-apart : goal.put_net_set-requires-clause-apart
put_net_set-requires-clause-apart g c = set_put_apart g.R.DigestRule.digest_of c.requires.resources.0 c.args.self.now c.requires.resources.1.0 c.args.key.now c.args.net_set.now (kind_of_set_put c.args.key.now c.args.net_set.now c.requires.update) c.requires.resources.1.1

pub returns-clause-follows : goal.returns-clause-follows
returns-clause-follows g c = λ R h. after_set_put g.R.DigestRule.digest_of R c.args.self.now h c.put_net_set.new.self c.in_ok-put_net_set.ensures.settled c.in_ok-put_net_set.ensures.beside c.args.key.now c.args.net_set.now (kind_of_set_put c.args.key.now c.args.net_set.now c.requires.update) c.in_ok-put_net_set.ensures.taken

pub returns-clause-sent : goal.returns-clause-sent
returns-clause-sent g c = c.in_ok-put_net_set.ensures.beside.sent
