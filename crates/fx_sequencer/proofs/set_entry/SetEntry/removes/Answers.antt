use Rattle.std.proofs.Common.{◌∙◌}
use Rattle.fx_sequencer.proofs.OneSet.{lent_removes}
use Rattle.fx_sequencer.proofs.set_entry.SetEntry.removes.Goals as goal

pub returns : goal.returns
returns c = c.all.ensures ∙ lent_removes c.self.invariant c.self.view_is c.requires
