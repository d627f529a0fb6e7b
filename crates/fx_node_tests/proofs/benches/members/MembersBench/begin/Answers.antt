use Rattle.std.proofs.Common.{ap, ◌∙◌}
use Rattle.fx_members.specs.declared.inputs.Inputs.{Inputs}
use Rattle.fx_node_tests.proofs.OnePair.{absent, put}
use Rattle.fx_node_tests.proofs.benches.members.MembersBench.begin.Goals as goal

pub matched-requires-clause-absent : goal.matched-requires-clause-absent
matched-requires-clause-absent c = absent _ _ _ _ c.requires.told c.if-self.false

pub matched-requires-clause-members : goal.matched-requires-clause-members
matched-requires-clause-members c = c.requires.members

pub use_on-requires-clause-kind : goal.use_on-requires-clause-kind
use_on-requires-clause-kind c = c.requires.usable.kind

pub use_on-requires-clause-set : goal.use_on-requires-clause-set
use_on-requires-clause-set c = c.requires.usable.formed

pub use_on-requires-clause-selector : goal.use_on-requires-clause-selector
use_on-requires-clause-selector c = c.requires.usable.selector

pub returns : goal.returns
returns c = record {
  members = c.in_ok-use_on.ensures.members;
  told =
      ap (λ (n : Inputs). n.matched) c.in_ok-use_on.ensures.inputs ∙ ap (λ (n : Inputs). n.matched) c.in_ok-matched.ensures.inputs
      ∙ put _ _ _ _ c.requires.told c.if-self.false;
  usable = c.requires.usable;
}
