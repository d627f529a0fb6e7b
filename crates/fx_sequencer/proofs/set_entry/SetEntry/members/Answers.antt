use Rattle.std.proofs.Common.{◌∙◌}
use Rattle.fx_sequencer.proofs.OneSet.{lent_members}
use Rattle.fx_sequencer.proofs.set_entry.SetEntry.members.Goals as goal

pub returns : goal.returns
returns c = c.flagged.ensures ∙ lent_members c.self.invariant c.self.view_is c.requires
