use Rattle.std.proofs.Common.{◌≡◌}
use Rattle.fx_driver.specs.Members.{with_members}
use Rattle.felix_host.proofs.members.add_members.Given as goal

abbrev pub invariant-loop-member : goal.invariant-loop-member
invariant-loop-member l = with_members l.held l.member-iterator ≡ with_members l.fn.held l.members
