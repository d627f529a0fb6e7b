use Rattle.std.proofs.Common.{◌≡◌}
use Rattle.fx_driver.specs.Members.{without_members}
use Rattle.felix_host.proofs.members.remove_members.Given as goal

abbrev pub invariant-loop-member : goal.invariant-loop-member
invariant-loop-member l = without_members l.held l.member-iterator ≡ without_members l.fn.held l.members
