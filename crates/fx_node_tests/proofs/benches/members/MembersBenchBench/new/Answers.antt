use Rattle.std.proofs.Common.{ap, sym, ◌∙◌, subst}
use Rattle.fx_model.specs.Sets.{use_of}
use Rattle.fx_model.specs.Tables.{Sets}
use Rattle.fx_model.specs.declared.set_use.SetUse.{SetUse}
use Rattle.fx_members.specs.Members.{AreMembers}
use Rattle.fx_members.specs.declared.inputs.Inputs.{Inputs}
use Rattle.fx_node_tests.proofs.benches.members.MembersBenchBench.new.Goals as goal

pub returns : goal.returns
returns c =
    let is = c.in_ok-set.ensures.set in
    record {
      members = subst (λ (S : Sets). AreMembers c.new-node.result S) (sym c.new-sink.ensures) c.new-node.ensures.members;
      told = ap (λ (n : Inputs). n.matched) c.new-node.ensures.empty;
      usable = record {
        kind = c.new-name.ensures.kind ∙ sym (ap (λ (u : SetUse). u.kind) is);
        formed = is ∙ sym (ap (λ (u : SetUse). use_of u.port u.selector) is);
        selector = c.in_ok-set.ensures.selector;
      };
    }
