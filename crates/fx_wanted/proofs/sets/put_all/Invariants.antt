use Rattle.std.proofs.Common.{◌≡◌}
use Rattle.fx_base.specs.Extended.{extended}
use Rattle.fx_base.specs.Set.{marked}
use Rattle.fx_wanted.proofs.sets.put_all.Given as goal

abbrev pub invariant-loop-member : goal.invariant-loop-member
invariant-loop-member l = l.members ≡ extended l.fn.members (marked l.yielded)
