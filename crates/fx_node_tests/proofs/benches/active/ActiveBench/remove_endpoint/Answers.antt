use Rattle.std.proofs.Common.{ap, ◌∙◌}
use Rattle.fx_active.specs.declared.inputs.Inputs.{Inputs}
use Rattle.fx_node_tests.proofs.benches.active.ActiveBench.remove_endpoint.Goals as goal

pub remove_endpoint-requires : goal.remove_endpoint-requires
remove_endpoint-requires c = c.requires.active

pub returns : goal.returns
returns c = record {
  active = c.in_ok-remove_endpoint.ensures.active;
  told = ap (λ (n : Inputs). n.matched) c.in_ok-remove_endpoint.ensures.inputs ∙ c.requires.told;
}
