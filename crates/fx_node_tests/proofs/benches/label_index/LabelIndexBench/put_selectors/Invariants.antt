use Rattle.fx_label_index.specs.Matched.{IsMatched}
use Rattle.fx_node_tests.proofs.benches.label_index.LabelIndexBench.put_selectors.Given as goal

abbrev pub invariant-loop-text : goal.invariant-loop-text
invariant-loop-text l = IsMatched l.self.node l.self.sink.pairs
