use Rattle.fx_members.proofs.MemberLemmas.{told_in, members_in}
use Rattle.fx_members.proofs.members.Members.put_item.Goals as goal

pub put_item-requires-clause-told : goal.put_item-requires-clause-told
put_item-requires-clause-told g c = told_in c.self.view_is c.self.invariant c.requires c.replace-state.ensures.value

pub returns-clause-members : goal.returns-clause-members
returns-clause-members g c = members_in c.put_item.new.self c.in_ok-put_item.ensures.kept c.in_ok-put_item.ensures.told
