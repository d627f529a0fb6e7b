use Rattle.std.proofs.Common.{ap, sym, subst}
use Rattle.fx_model.specs.Pairs.{PolicyPairs}
use Rattle.fx_model.specs.Sinks.{Policies, Profiles}
use Rattle.fx_active.specs.Node.{IsActive}
use Rattle.fx_active.specs.declared.inputs.Inputs.{Inputs}
use Rattle.fx_node_tests.proofs.benches.active.ActiveBenchBench.new.Goals as goal

pub returns : goal.returns
returns c = record {
  active =
      subst (λ (P : Policies). IsActive c.new-node.result P c.new-sink.result.profiles c.new-sink.result.pairs) (sym c.new-sink.ensures.policies)
      (subst (λ (Q : Profiles). IsActive c.new-node.result _ Q c.new-sink.result.pairs) (sym c.new-sink.ensures.profiles)
      (subst (λ (R : PolicyPairs). IsActive c.new-node.result _ _ R) (sym c.new-sink.ensures.pairs) c.new-node.ensures.active));
  told = ap (λ (n : Inputs). n.matched) c.new-node.ensures.empty;
}
