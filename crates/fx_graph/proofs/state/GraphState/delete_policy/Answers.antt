use Rattle.fx_graph.proofs.Following.{policy_gone_apart, after_policy_gone}
use Rattle.fx_graph.proofs.state.GraphState.delete_policy.Goals as goal

pub remove_policy-requires-clause-settled : goal.remove_policy-requires-clause-settled
remove_policy-requires-clause-settled g c = c.requires.1.0.nodes.settled

pub remove_policy-requires-clause-apart : goal.remove_policy-requires-clause-apart
remove_policy-requires-clause-apart g c = policy_gone_apart g.R.DigestRule.digest_of c.requires.0 c.args.self.now c.requires.1.0 c.args.id.now c.requires.1.1

pub returns-clause-follows : goal.returns-clause-follows
returns-clause-follows g c = λ R h. after_policy_gone g.R.DigestRule.digest_of R c.args.self.now h c.remove_policy.new.self c.in_ok-remove_policy.ensures.settled c.in_ok-remove_policy.ensures.beside c.args.id.now c.in_ok-remove_policy.ensures.taken

pub returns-clause-sent : goal.returns-clause-sent
returns-clause-sent g c = c.in_ok-remove_policy.ensures.beside.sent
