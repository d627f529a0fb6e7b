use Rattle.fx_node_laws.proofs.Defining.{defined}
use Rattle.fx_node_laws.proofs.laws.active_rules_are_those_of_the_resources.Goals as goal

pub returns : goal.returns
returns c = λ dg R n a r m policies profiles pairs tied composed. defined tied policies profiles pairs composed
