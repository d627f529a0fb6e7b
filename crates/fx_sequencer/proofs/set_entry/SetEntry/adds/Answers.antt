use Rattle.std.proofs.Common.{◌∙◌}
use Rattle.fx_sequencer.proofs.OneSet.{lent_adds}
use Rattle.fx_sequencer.proofs.set_entry.SetEntry.adds.Goals as goal

pub returns : goal.returns
returns c = c.all.ensures ∙ lent_adds c.self.invariant c.self.view_is c.requires
