use Rattle.fx_sequencer.proofs.SetKeeping.{no_sets_pending}
use Rattle.fx_sequencer.proofs.SetMaps.{no_set_maps}
use Rattle.fx_sequencer.proofs.set_entries.SetEntries.new.Goals as goal

pub invariant_of-result : goal.invariant_of-result
invariant_of-result c = no_sets_pending c.new.ensures c.new-2.ensures c.new-3.ensures c.new-4.ensures

pub returns : goal.returns
returns c = no_set_maps c.new.ensures
