use Rattle.fx_graph_rules.proofs.Uppers.{upper_none}
use Rattle.fx_graph_rules.proofs.nodes.Upper.new.Goals as goal

pub returns-clause-upper : goal.returns-clause-upper
returns-clause-upper c = upper_none _ c.new.ensures.joined (λ k. (c.new.ensures.index k).selectors) (λ k. (c.new.ensures.active k).policies)
