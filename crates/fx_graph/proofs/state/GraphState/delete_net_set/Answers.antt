use Rattle.fx_graph.proofs.Following.{set_gone_apart, after_set_gone}
use Rattle.fx_graph.proofs.state.GraphState.delete_net_set.Goals as goal

pub remove_net_set-requires-clause-settled : goal.remove_net_set-requires-clause-settled
remove_net_set-requires-clause-settled g c = c.requires.resources.1.0.nodes.settled

pub remove_net_set-requires-clause-apart : goal.remove_net_set-requires-clause-apart
remove_net_set-requires-clause-apart g c = set_gone_apart g.R.DigestRule.digest_of c.requires.resources.0 c.args.self.now c.requires.resources.1.0 c.args.key.now c.requires.kind c.requires.resources.1.1

pub returns-clause-follows : goal.returns-clause-follows
returns-clause-follows g c = λ R h. after_set_gone g.R.DigestRule.digest_of R c.args.self.now h c.remove_net_set.new.self c.in_ok-remove_net_set.ensures.settled c.in_ok-remove_net_set.ensures.beside c.args.key.now c.requires.kind c.in_ok-remove_net_set.ensures.taken

pub returns-clause-sent : goal.returns-clause-sent
returns-clause-sent g c = c.in_ok-remove_net_set.ensures.beside.sent
