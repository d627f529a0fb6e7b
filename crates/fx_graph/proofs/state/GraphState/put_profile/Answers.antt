use Rattle.fx_graph.proofs.Following.{profile_put_apart, after_profile_put}
use Rattle.fx_graph.proofs.state.GraphState.put_profile.Goals as goal

pub put_profile-requires-clause-settled : goal.put_profile-requires-clause-settled
put_profile-requires-clause-settled g c = c.requires.1.0.nodes.settled

pub put_profile-requires-clause-apart : goal.put_profile-requires-clause-apart
put_profile-requires-clause-apart g c = profile_put_apart g.R.DigestRule.digest_of c.requires.0 c.args.self.now c.requires.1.0 c.args.name.now c.args.profile.now c.requires.1.1

pub returns-clause-follows : goal.returns-clause-follows
returns-clause-follows g c = λ R h. after_profile_put g.R.DigestRule.digest_of R c.args.self.now h c.put_profile.new.self c.in_ok-put_profile.ensures.settled c.in_ok-put_profile.ensures.beside c.args.name.now c.args.profile.now c.in_ok-put_profile.ensures.taken

pub returns-clause-sent : goal.returns-clause-sent
returns-clause-sent g c = c.in_ok-put_profile.ensures.beside.sent
