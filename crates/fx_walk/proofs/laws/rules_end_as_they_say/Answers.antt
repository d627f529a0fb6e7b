use Rattle.fx_walk.proofs.Rules.{rules_end}
use Rattle.fx_walk.proofs.laws.rules_end_as_they_say.Goals as goal

pub returns : goal.returns
returns c = rules_end
