use Rattle.fx_graph.proofs.Following.{policy_put_apart, after_policy_put}
use Rattle.fx_graph.proofs.state.GraphState.put_policy.Goals as goal

pub put_policy-requires-clause-settled : goal.put_policy-requires-clause-settled
put_policy-requires-clause-settled g c = c.requires.1.0.nodes.settled

pub put_policy-requires-clause-apart : goal.put_policy-requires-clause-apart
put_policy-requires-clause-apart g c = policy_put_apart g.R.DigestRule.digest_of c.requires.0 c.args.self.now c.requires.1.0 c.args.id.now c.args.policy.now c.requires.1.1

pub returns-clause-follows : goal.returns-clause-follows
returns-clause-follows g c = λ R h. after_policy_put g.R.DigestRule.digest_of R c.args.self.now h c.put_policy.new.self c.in_ok-put_policy.ensures.settled c.in_ok-put_policy.ensures.beside c.args.id.now c.args.policy.now c.in_ok-put_policy.ensures.taken

pub returns-clause-sent : goal.returns-clause-sent
returns-clause-sent g c = c.in_ok-put_policy.ensures.beside.sent
