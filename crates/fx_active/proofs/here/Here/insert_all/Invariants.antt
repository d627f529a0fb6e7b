use Rattle.std.proofs.Common.{true}
use Rattle.fx_active.proofs.HereWalk.{IsHalfHere}
use Rattle.fx_active.proofs.here.Here.insert_all.Given as goal

abbrev pub invariant-loop-text : goal.invariant-loop-text
invariant-loop-text l = IsHalfHere l.texts l.item true l.fn.self l.self l.text-iterator
