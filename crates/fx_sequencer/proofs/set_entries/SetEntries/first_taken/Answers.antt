use Rattle.std.proofs.Common.{◌∙◌}
use Rattle.fx_sequencer.proofs.SetMaps.{first_taken_key}
use Rattle.fx_sequencer.proofs.set_entries.SetEntries.first_taken.Goals as goal

pub returns : goal.returns
returns c = c.first_name.ensures ∙ first_taken_key c.self.invariant c.self.view_is
