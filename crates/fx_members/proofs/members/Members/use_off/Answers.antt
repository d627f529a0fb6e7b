use Rattle.fx_members.proofs.MemberLemmas.{told_in, members_in}
use Rattle.fx_members.proofs.members.Members.use_off.Goals as goal

pub remove_use-requires-clause-told : goal.remove_use-requires-clause-told
remove_use-requires-clause-told g c = told_in c.self.view_is c.self.invariant c.requires c.replace-state.ensures.value

pub returns-clause-members : goal.returns-clause-members
returns-clause-members g c = members_in c.remove_use.new.self c.in_ok-remove_use.ensures.kept c.in_ok-remove_use.ensures.told
