use Rattle.fx_graph.proofs.graph.Graph.new.Goals as goal

pub returns-clause-resources : goal.returns-clause-resources
returns-clause-resources g c = c.new.ensures.resources g.R.DigestRule.digest_of
