use Rattle.fx_members.proofs.MemberLemmas.{none_used}
use Rattle.fx_members.proofs.members.Members.new.Goals as goal

pub returns-clause-members : goal.returns-clause-members
returns-clause-members c = none_used c.new.result.inputs c.new.ensures.inputs
