use Rattle.std.proofs.Common.{false}
use Rattle.fx_sequencer.proofs.OneSet.{no_flags}
use Rattle.fx_sequencer.proofs.set_entry.SetEntry.none.Goals as goal

pub invariant_of-result : goal.invariant_of-result
invariant_of-result c = no_flags c.new.ensures false c.new-2.ensures c.new-3.ensures
