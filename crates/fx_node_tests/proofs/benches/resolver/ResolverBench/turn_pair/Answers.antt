use Rattle.std.proofs.Common.{sym, ◌∙◌}
use Rattle.fx_node_tests.proofs.benches.resolver.ResolverBench.turn_pair.Goals as goal

pub remove_pair-requires-clause-present : goal.remove_pair-requires-clause-present
remove_pair-requires-clause-present c = sym c.contains.ensures ∙ c.if-contains.true

pub put_pair-requires-clause-absent : goal.put_pair-requires-clause-absent
put_pair-requires-clause-absent c = sym c.contains.ensures ∙ c.if-contains.false
