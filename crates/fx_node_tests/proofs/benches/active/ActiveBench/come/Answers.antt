use Rattle.std.proofs.Common.{ap, ◌∙◌}
use Rattle.fx_active.specs.declared.inputs.Inputs.{Inputs}
use Rattle.fx_node_tests.proofs.OnePair.{absent, put}
use Rattle.fx_node_tests.proofs.benches.active.ActiveBench.come.Goals as goal

pub matched-requires-clause-absent : goal.matched-requires-clause-absent
matched-requires-clause-absent c = absent _ _ _ _ c.requires.told c.if-self.false

pub matched-requires-clause-active : goal.matched-requires-clause-active
matched-requires-clause-active c = c.requires.active

pub returns : goal.returns
returns c = record {
  active = c.in_ok-put_endpoint.ensures.active;
  told =
      ap (λ (n : Inputs). n.matched) c.in_ok-put_endpoint.ensures.inputs ∙ ap (λ (n : Inputs). n.matched) c.in_ok-put_profile.ensures.inputs
      ∙ ap (λ (n : Inputs). n.matched) c.in_ok-put_policy.ensures.inputs ∙ ap (λ (n : Inputs). n.matched) c.in_ok-matched.ensures.inputs
      ∙ put _ _ _ _ c.requires.told c.if-self.false;
}
