use Rattle.std.proofs.Common.{Some, None, ap, ◌∙◌}
use Rattle.std.specs.Option.{option_and_then}
use Rattle.fx_sequencer.specs.Entry.{wanted_of}
use Rattle.fx_sequencer.proofs.EntryMaps.{none_put, put_lent}
use Rattle.fx_sequencer.proofs.text_entries.TextEntries.first_put.Goals as goal

pub returns-in_default : goal.returns-in_default
returns-in_default g c = none_put c.self.invariant c.self.view_is c.in_default.ensures

pub returns-in-Some-wanted_at : goal.returns-in-Some-wanted_at
returns-in-Some-wanted_at g c = put_lent c.self.invariant c.self.view_is c.in-Some.key.now c.in-Some.ensures (Some c.in-Some-wanted_at.value.now) (c.in-Some-wanted_at.ensures ∙ ap (option_and_then wanted_of) c.get.ensures)

pub returns-in-None : goal.returns-in-None
returns-in-None g c = put_lent c.self.invariant c.self.view_is c.in-Some.key.now c.in-Some.ensures None (c.in-None.ensures ∙ ap (option_and_then wanted_of) c.get.ensures)
