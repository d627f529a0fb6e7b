use Rattle.fx_sequencer.proofs.OneSet.{sent_flag}
use Rattle.fx_sequencer.proofs.set_entry.SetEntry.was_sent.Goals as goal

pub returns : goal.returns
returns c = sent_flag c.self.invariant c.self.view_is
