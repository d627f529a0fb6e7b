use Rattle.std.proofs.Common.{ap, sym, ◌∙◌}
use Rattle.fx_resolver.specs.declared.inputs.Inputs.{Inputs}
use Rattle.fx_resolver.proofs.Alone.{only_empty}
use Rattle.fx_node_tests.proofs.benches.resolver.ResolverBenchBench.new.Goals as goal

pub returns : goal.returns
returns c = record {
  resolved = c.new-sink.ensures.endpoints ∙ c.new-node.ensures.resolved;
  told = ap (λ (n : Inputs). n.pairs) c.new-node.ensures.empty ∙ sym c.new-pairs.ensures;
  only = only_empty _ c.new-node.result.endpoints (ap (λ (n : Inputs). n.endpoints) c.new-node.ensures.empty);
}
