use Rattle.fx_sequencer.proofs.EntryMaps.{no_maps}
use Rattle.fx_sequencer.proofs.Keeping.{none_pending}
use Rattle.fx_sequencer.proofs.name_entries.NameEntries.new.Goals as goal

pub invariant_of-result : goal.invariant_of-result
invariant_of-result g c = none_pending g.V.PartialEq.eq c.new.ensures c.new-2.ensures c.new-3.ensures

pub returns : goal.returns
returns g c = no_maps c.new.ensures
