use Rattle.fx_found.proofs.Taking.{IsTaking}
use Rattle.fx_found.proofs.chains.writes_of.Given as goal

abbrev pub invariant-loop-name : goal.invariant-loop-name
invariant-loop-name l = IsTaking l.fn.rules l.rules l.writes.items l.yielded l.name-iterator.rest.items
