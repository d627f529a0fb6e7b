use Rattle.std.proofs.Common.{ap, ◌∙◌}
use Rattle.fx_members.specs.declared.inputs.Inputs.{Inputs}
use Rattle.fx_node_tests.proofs.benches.members.MembersBench.put_nets.Goals as goal

pub put_item-requires : goal.put_item-requires
put_item-requires c = c.requires.members

pub returns : goal.returns
returns c = record {
  members = c.in_ok-put_item.ensures.members;
  told = ap (λ (n : Inputs). n.matched) c.in_ok-put_item.ensures.inputs ∙ c.requires.told;
  usable = c.requires.usable;
}
