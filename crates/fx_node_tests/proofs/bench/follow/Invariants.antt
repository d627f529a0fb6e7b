use Rattle.fx_node_tests.proofs.bench.follow.Given as goal

abbrev pub invariant-loop-title : goal.invariant-loop-title
invariant-loop-title g l = g.B.Bench.Ready l.bench
