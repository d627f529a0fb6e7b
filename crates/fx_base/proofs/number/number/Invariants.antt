use Rattle.fx_base.proofs.NumberLemmas.{IsReadPrefix}
use Rattle.fx_base.proofs.number.number.Given as goal

abbrev pub invariant-loop-at : goal.invariant-loop-at
invariant-loop-at l = IsReadPrefix l.low l.high l.text l.read l.at
