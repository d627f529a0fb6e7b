use Rattle.fx_hostep.proofs.HostLeads.{IsWriting}
use Rattle.fx_hostep.proofs.goal.write_all.Given as goal

abbrev pub invariant-loop-name : goal.invariant-loop-name
invariant-loop-name l = IsWriting l.fn.tables l.tables l.fn.chains l.name-iterator.rest.items
