use Rattle.std.proofs.Common.{◌∙◌}
use Rattle.fx_sequencer.proofs.EntryMaps.{first_taken_key}
use Rattle.fx_sequencer.proofs.text_entries.TextEntries.first_taken.Goals as goal

pub returns : goal.returns
returns g c = c.first.ensures ∙ first_taken_key c.self.invariant c.self.view_is
