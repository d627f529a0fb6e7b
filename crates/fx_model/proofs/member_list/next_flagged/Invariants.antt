use Rattle.std.proofs.Common.{◌≡◌, length}
use Rattle.fx_model.specs.MemberLists.{flagged}
use Rattle.fx_model.proofs.member_list.next_flagged.Given as goal

-- nothing that the walk gives is passed over yet
abbrev pub invariant-loop-member : goal.invariant-loop-member
invariant-loop-member l = flagged l.wanted l.members ≡ flagged l.wanted l.initial.members

abbrev pub decreases-loop-member : goal.decreases-loop-member
decreases-loop-member l = length l.members
