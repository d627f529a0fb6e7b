use Rattle.fx_resolver.proofs.OrderLemmas.{IsHalfReordered}
use Rattle.fx_resolver.proofs.orders.move_ids.Given as goal

abbrev pub invariant-loop-id : goal.invariant-loop-id
invariant-loop-id l = IsHalfReordered l.after l.inputs.policies l.inputs.pairs l.ids l.fn.lists l.lists l.id-iterator
