use Rattle.std.proofs.Common.{ap}
use Rattle.std.specs.Option.{option_map}
use Rattle.fx_model.specs.Messages.{set_added}
use Rattle.fx_sequencer.proofs.SetMaps.{none_added, added_new, added_told, added_kept_there}
use Rattle.fx_sequencer.proofs.set_entries.SetEntries.first_added.Goals as goal

pub returns-in_default : goal.returns-in_default
returns-in_default c = ap (option_map set_added) (none_added c.self.invariant c.self.view_is c.in_default.ensures)

pub members-requires : goal.members-requires
members-requires c = added_new c.self.invariant c.self.view_is c.in-Some.name.now c.in-Some.ensures c.in-Some-get.ensures

pub returns-in-Some-get : goal.returns-in-Some-get
returns-in-Some-get c = added_told c.self.invariant c.self.view_is c.in-Some.name.now c.in-Some.ensures c.in-Some-get.ensures c.members.ensures

pub returns-in-None : goal.returns-in-None
returns-in-None c = added_kept_there c.self.invariant c.self.view_is c.in-Some.name.now c.in-Some.ensures c.in-None.ensures
