use Rattle.fx_sequencer.proofs.OneSet.{on_flagged, on_sides}
use Rattle.fx_sequencer.proofs.set_entry.SetEntry.turn_on.Goals as goal

pub invariant_of-self : goal.invariant_of-self
invariant_of-self c = on_flagged c.self.invariant c.self.view_is c.requires

pub returns : goal.returns
returns c = on_sides c.self.invariant c.self.view_is c.requires
