use Rattle.std.proofs.Common.{ap}
use Rattle.fx_sequencer.specs.declared.sides.Sides.{Sides}
use Rattle.fx_graph.proofs.Kept.{graph_sent}
use Rattle.fx_graph.proofs.graph.Graph.sent.Goals as goal

pub returns-clause-resources : goal.returns-clause-resources
returns-clause-resources g c = λ R is. graph_sent g.R.DigestRule.digest_of R c.args.self.now.state is c.sent.new.self (ap (λ (q : Sides). q.wanted) c.sent.ensures)
