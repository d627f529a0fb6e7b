use Rattle.std.proofs.Common.{false}
use Rattle.fx_active.proofs.HereWalk.{IsHalfHere}
use Rattle.fx_active.proofs.here.Here.remove_all.Given as goal

abbrev pub invariant-loop-text : goal.invariant-loop-text
invariant-loop-text l = IsHalfHere l.texts l.item false l.fn.self l.self l.text-iterator
