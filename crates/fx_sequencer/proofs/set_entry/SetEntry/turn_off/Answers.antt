use Rattle.fx_sequencer.proofs.OneSet.{off_flagged, off_sides}
use Rattle.fx_sequencer.proofs.set_entry.SetEntry.turn_off.Goals as goal

pub invariant_of-self : goal.invariant_of-self
invariant_of-self c = off_flagged c.self.invariant c.self.view_is c.requires

pub returns : goal.returns
returns c = off_sides c.self.invariant c.self.view_is c.requires
