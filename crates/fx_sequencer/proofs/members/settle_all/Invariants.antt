use Rattle.fx_base.specs.Set as set
use Rattle.fx_sequencer.proofs.Settling.{IsSettling}
use Rattle.fx_sequencer.proofs.members.settle_all.Given as goal

-- those that are left are to be told of, and all others were
abbrev pub invariant-loop-member : goal.invariant-loop-member
invariant-loop-member l = IsSettling l.initial.members l.initial.noted l.members l.noted

abbrev pub decreases-loop-member : goal.decreases-loop-member
decreases-loop-member l = set.len l.noted
