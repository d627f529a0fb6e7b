use Rattle.fx_wanted.proofs.Members.{one_more_member}
use Rattle.fx_wanted.proofs.sets.put_all.Goals as goal

pub loop-member-preserved : goal.loop-member-preserved
loop-member-preserved c = one_more_member _ _ _ c.loop-member.yielded c.in-Some.member c.loop-member.invariant c.in_ok-insert.ensures.ok
