use Rattle.std.proofs.Common.{ap, ◌∙◌}
use Rattle.fx_active.specs.declared.inputs.Inputs.{Inputs}
use Rattle.fx_node_tests.proofs.OnePair.{present, taken}
use Rattle.fx_node_tests.proofs.benches.active.ActiveBench.go.Goals as goal

pub unmatched-requires-clause-present : goal.unmatched-requires-clause-present
unmatched-requires-clause-present c = present _ _ _ _ c.requires.told c.if-not-self.false

pub unmatched-requires-clause-active : goal.unmatched-requires-clause-active
unmatched-requires-clause-active c = c.requires.active

pub returns : goal.returns
returns c = record {
  active = c.in_ok-remove_profile.ensures.active;
  told =
      ap (λ (n : Inputs). n.matched) c.in_ok-remove_profile.ensures.inputs ∙ ap (λ (n : Inputs). n.matched) c.in_ok-remove_policy.ensures.inputs
      ∙ ap (λ (n : Inputs). n.matched) c.in_ok-unmatched.ensures.inputs
      ∙ taken _ _ _ _ c.requires.told c.if-not-self.false;
}
