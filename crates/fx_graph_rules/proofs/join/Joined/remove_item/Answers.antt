use Rattle.std.proofs.Common.{subst}
use Rattle.fx_label_index.specs.Tested.{IsTested}
use Rattle.fx_graph_rules.proofs.join.Joined.remove_item.Goals as goal

pub returns-clause-tests : goal.returns-clause-tests
returns-clause-tests g c = subst (λ a. IsTested a c.remove_item.new.self (g.T.Ticker.number c.args.ticks.now) (g.T.Ticker.number c.remove_item.new.ticks)) c.take_pairs.ensures.index c.in_ok-remove_item.ensures.tests
