use Rattle.std.proofs.Common.{ap, ◌∙◌}
use Rattle.fx_members.specs.declared.inputs.Inputs.{Inputs}
use Rattle.fx_node_tests.proofs.OnePair.{present, taken}
use Rattle.fx_node_tests.proofs.benches.members.MembersBench.end.Goals as goal

pub unmatched-requires-clause-present : goal.unmatched-requires-clause-present
unmatched-requires-clause-present c = present _ _ _ _ c.requires.told c.if-not-self.false

pub unmatched-requires-clause-members : goal.unmatched-requires-clause-members
unmatched-requires-clause-members c = c.requires.members

pub returns : goal.returns
returns c = record {
  members = c.in_ok-use_off.ensures.members;
  told =
      ap (λ (n : Inputs). n.matched) c.in_ok-use_off.ensures.inputs ∙ ap (λ (n : Inputs). n.matched) c.in_ok-remove_item.ensures.inputs
      ∙ ap (λ (n : Inputs). n.matched) c.in_ok-unmatched.ensures.inputs ∙ taken _ _ _ _ c.requires.told c.if-not-self.false;
  usable = c.requires.usable;
}
