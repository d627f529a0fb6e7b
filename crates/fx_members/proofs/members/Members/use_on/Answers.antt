use Rattle.std.proofs.Common.{◌≡◌, ap, ◌∙◌}
use Rattle.std.specs.FinMap as map
use Rattle.fx_base.proofs.AtKey.{get_remove_same, insert_removed_bytes}
use Rattle.fx_members.specs.declared.inputs.Inputs.{Inputs}
use Rattle.fx_members.specs.declared.state.State.{State}
use Rattle.fx_members.proofs.MemberLemmas.{told_in, members_in}
use Rattle.fx_members.proofs.members.Members.use_on.Goals as goal

pub remove_use-requires-clause-told : goal.remove_use-requires-clause-told
remove_use-requires-clause-told g c = told_in c.self.view_is c.self.invariant c.requires.members c.replace-state.ensures.value

pub add_use-requires-clause-absent : goal.add_use-requires-clause-absent
add_use-requires-clause-absent g c =
    ap (λ (n : Inputs). map.get n.uses c.args.name) c.in_ok-remove_use.ensures.inputs ∙ get_remove_same c.replace-state.result.inputs.uses c.args.name

pub returns-clause-inputs : goal.returns-clause-inputs
returns-clause-inputs g c =
    let n = c.args.self.now in
    let name = c.args.name in
    let set = c.args.set.now in
    let was : c.replace-state.result.inputs ≡ n = ap (λ (s : State). s.inputs) c.replace-state.ensures.value ∙ c.self.view_is in
    c.in_ok-add_use.ensures.inputs
    ∙ ap (λ (k : Inputs). record k { uses = map.insert k.uses name set }) (c.in_ok-remove_use.ensures.inputs ∙ ap (λ (k : Inputs). record k { uses = map.remove k.uses name }) was)
    ∙ (λ j. record n { uses = insert_removed_bytes n.uses name set j })

pub returns-clause-members : goal.returns-clause-members
returns-clause-members g c = members_in c.add_use.new.self c.in_ok-add_use.ensures.kept c.in_ok-add_use.ensures.told
