use Rattle.fx_node_laws.proofs.Starting.{tied_at_first, told_at_first}
use Rattle.fx_node_laws.proofs.laws.empty_nodes_are_those_of_no_resources.Goals as goal

pub returns-clause-tied : goal.returns-clause-tied
returns-clause-tied c = tied_at_first

pub returns-clause-told : goal.returns-clause-told
returns-clause-told c = told_at_first
