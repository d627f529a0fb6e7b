use Rattle.fx_members.proofs.MemberLemmas.{told_in, members_in}
use Rattle.fx_members.proofs.members.Members.matched.Goals as goal

pub add_match-requires-clause-told : goal.add_match-requires-clause-told
add_match-requires-clause-told g c = told_in c.self.view_is c.self.invariant c.requires.members c.replace-state.ensures.value

pub returns-clause-members : goal.returns-clause-members
returns-clause-members g c = members_in c.add_match.new.self c.in_ok-add_match.ensures.kept c.in_ok-add_match.ensures.told
