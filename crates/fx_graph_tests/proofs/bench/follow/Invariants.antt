use Rattle.fx_graph_tests.specs.Benches.{AreAlike}
use Rattle.fx_graph_tests.proofs.bench.follow.Given as goal

abbrev pub invariant-loop-line : goal.invariant-loop-line
invariant-loop-line l = AreAlike l.store l.graph.state
