use Rattle.fx_label_index.specs.Matched.{IsMatched}
use Rattle.fx_node_tests.proofs.benches.label_index.LabelIndexBench.put_roles.Given as goal

abbrev pub invariant-loop-number : goal.invariant-loop-number
invariant-loop-number l = IsMatched l.self.node l.self.sink.pairs
