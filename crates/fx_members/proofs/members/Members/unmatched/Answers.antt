use Rattle.fx_members.proofs.MemberLemmas.{told_in, members_in}
use Rattle.fx_members.proofs.members.Members.unmatched.Goals as goal

pub remove_match-requires-clause-told : goal.remove_match-requires-clause-told
remove_match-requires-clause-told g c = told_in c.self.view_is c.self.invariant c.requires.members c.replace-state.ensures.value

pub returns-clause-members : goal.returns-clause-members
returns-clause-members g c = members_in c.remove_match.new.self c.in_ok-remove_match.ensures.kept c.in_ok-remove_match.ensures.told
