use Rattle.std.proofs.Common.{subst}
use Rattle.fx_graph_rules.specs.Counting.{IsCountedText}
use Rattle.fx_graph_rules.proofs.Composing.{composed}
use Rattle.fx_graph_rules.proofs.Uppers.{upper_at}
use Rattle.fx_graph_rules.proofs.nodes.Upper.forget.Goals as goal

pub returns-in_default-clause-composed : goal.returns-in_default-clause-composed
returns-in_default-clause-composed g c = composed _ _ _ _ _ c.requires.1

pub returns-clause-upper : goal.returns-clause-upper
returns-clause-upper g c used u = c.in_ok-changes.ensures.upper used (upper_at _ _ _ used _ _ _ c.in-Some.is u)

pub returns-in_default-clause-tests : goal.returns-in_default-clause-tests
returns-in_default-clause-tests g c = λ first m there it. it

pub returns-clause-tests : goal.returns-clause-tests
returns-clause-tests g c = λ first m there it. c.in_ok-changes.ensures.tests first m (subst (IsCountedText first.selectors) c.in-Some.is there) it
