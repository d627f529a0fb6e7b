use Rattle.fx_walk.proofs.FromRuns.{none_matched, none_reasoned}
use Rattle.fx_walk.proofs.laws.nothing_is_told_of_no_match.Goals as goal

pub returns-clause-last : goal.returns-clause-last
returns-clause-last c = none_matched

pub returns-clause-reason : goal.returns-clause-reason
returns-clause-reason c = none_reasoned
