use Rattle.std.proofs.Common.{subst}
use Rattle.fx_label_index.specs.Tested.{IsTested}
use Rattle.fx_graph_rules.proofs.join.Joined.put_parent.Goals as goal

pub returns-clause-tests : goal.returns-clause-tests
returns-clause-tests g c = subst (λ a. IsTested a c.put_parent.new.self (g.T.Ticker.number c.args.ticks.now) (g.T.Ticker.number c.put_parent.new.ticks)) c.take_pairs.ensures.index c.in_ok-put_parent.ensures.tests
