use Rattle.std.proofs.Common.{◌≡◌, length}
use Rattle.std.specs.Option.{option_copied}
use Rattle.fx_model.specs.MemberLists.{lacked_by}
use Rattle.fx_model.proofs.member_list.next_lacked.Given as goal

-- nothing that the walk gives is passed over yet
abbrev pub invariant-loop-member : goal.invariant-loop-member
invariant-loop-member l = lacked_by (option_copied l.without) l.members ≡ lacked_by (option_copied l.without) l.initial.members

abbrev pub decreases-loop-member : goal.decreases-loop-member
decreases-loop-member l = length l.members
