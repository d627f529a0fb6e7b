use Rattle.std.proofs.Common.{true, None, Some}
use Rattle.fx_sequencer.proofs.OneSet.{no_flags, no_members}
use Rattle.fx_sequencer.proofs.set_entry.SetEntry.new.Goals as goal

pub invariant_of-result : goal.invariant_of-result
invariant_of-result c = no_flags c.new.ensures true c.new-2.ensures c.new-3.ensures

pub returns : goal.returns
returns c i = record { sent = None; wanted = Some (no_members c.new.ensures i) }
