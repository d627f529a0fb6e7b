use Rattle.fx_walk.proofs.SetLookups.{NoneBelow}
use Rattle.fx_walk.proofs.matches.is_in_nets.Given as goal

-- no net of a length so far contains the address
abbrev pub invariant-loop-len : goal.invariant-loop-len
invariant-loop-len l = NoneBelow l.members l.address.0 l.len
