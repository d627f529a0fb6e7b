use Rattle.fx_members.proofs.MemberLemmas.{told_in, members_in}
use Rattle.fx_members.proofs.members.Members.remove_item.Goals as goal

pub remove_item-requires-clause-told : goal.remove_item-requires-clause-told
remove_item-requires-clause-told g c = told_in c.self.view_is c.self.invariant c.requires c.replace-state.ensures.value

pub returns-clause-members : goal.returns-clause-members
returns-clause-members g c = members_in c.remove_item.new.self c.in_ok-remove_item.ensures.kept c.in_ok-remove_item.ensures.told
