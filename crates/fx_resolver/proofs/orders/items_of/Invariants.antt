use Rattle.fx_resolver.proofs.OrderLemmas.{AreCovered}
use Rattle.fx_resolver.proofs.orders.items_of.Given as goal

abbrev pub invariant-loop-id : goal.invariant-loop-id
invariant-loop-id l = AreCovered l.ids l.pairs l.items l.id-iterator
