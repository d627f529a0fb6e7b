use Rattle.fx_graph.proofs.Following.{profile_gone_apart, after_profile_gone}
use Rattle.fx_graph.proofs.state.GraphState.delete_profile.Goals as goal

pub remove_profile-requires-clause-settled : goal.remove_profile-requires-clause-settled
remove_profile-requires-clause-settled g c = c.requires.1.0.nodes.settled

pub remove_profile-requires-clause-apart : goal.remove_profile-requires-clause-apart
remove_profile-requires-clause-apart g c = profile_gone_apart g.R.DigestRule.digest_of c.requires.0 c.args.self.now c.requires.1.0 c.args.name.now c.requires.1.1

pub returns-clause-follows : goal.returns-clause-follows
returns-clause-follows g c = λ R h. after_profile_gone g.R.DigestRule.digest_of R c.args.self.now h c.remove_profile.new.self c.in_ok-remove_profile.ensures.settled c.in_ok-remove_profile.ensures.beside c.args.name.now c.in_ok-remove_profile.ensures.taken

pub returns-clause-sent : goal.returns-clause-sent
returns-clause-sent g c = c.in_ok-remove_profile.ensures.beside.sent
