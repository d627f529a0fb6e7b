use Rattle.fx_selector.proofs.Parsing.{one_spelled}
use Rattle.fx_selector.proofs.laws.one_tree.Goals as goal

pub returns : goal.returns
returns c = one_spelled
