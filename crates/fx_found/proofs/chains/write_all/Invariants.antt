use Rattle.fx_found.proofs.Written.{IsWriting}
use Rattle.fx_found.proofs.chains.write_all.Given as goal

abbrev pub invariant-loop-name : goal.invariant-loop-name
invariant-loop-name l = IsWriting l.fn.tables l.tables l.fn.writes.items l.name-iterator.rest.items
