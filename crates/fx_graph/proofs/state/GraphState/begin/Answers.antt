use Rattle.fx_graph.proofs.InSync.{after_in_sync, in_sync_apart, in_sync_own, in_sync_short}
use Rattle.fx_graph.proofs.state.GraphState.begin.Goals as goal

pub begin-requires-clause-short : goal.begin-requires-clause-short
begin-requires-clause-short g c = in_sync_short g.R.DigestRule.digest_of c.requires.0 c.args.self.now c.requires.1.0 c.requires.1.1

pub begin-requires-clause-own : goal.begin-requires-clause-own
begin-requires-clause-own g c = in_sync_own g.R.DigestRule.digest_of c.requires.0 c.args.self.now c.requires.1.0 c.requires.1.1

pub begin-requires-clause-apart : goal.begin-requires-clause-apart
begin-requires-clause-apart g c = in_sync_apart g.R.DigestRule.digest_of c.requires.0 c.args.self.now c.requires.1.0 c.requires.1.1

pub begin-requires-clause-settled : goal.begin-requires-clause-settled
begin-requires-clause-settled g c = c.requires.1.0.nodes.settled

pub returns-clause-follows : goal.returns-clause-follows
returns-clause-follows g c = λ R h. after_in_sync g.R.DigestRule.digest_of R c.args.self.now h c.begin.new.self c.in_ok-begin.ensures.settled c.in_ok-begin.ensures.taken c.in_ok-begin.ensures.waiting
