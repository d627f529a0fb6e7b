use Rattle.std.proofs.Common.{ap}
use Rattle.std.specs.Option.{option_map}
use Rattle.fx_model.specs.Messages.{set_changed}
use Rattle.fx_sequencer.proofs.SetMaps.{none_changed, changed_other, changed_told, changed_kept_there}
use Rattle.fx_sequencer.proofs.set_entries.SetEntries.first_changed.Goals as goal

pub returns-in_default : goal.returns-in_default
returns-in_default c = ap (option_map (set_changed c.args.self.now.sent)) (none_changed c.self.invariant c.self.view_is c.in_default.ensures)

pub adds-requires : goal.adds-requires
adds-requires c = changed_other c.self.invariant c.self.view_is c.in-Some.name.now c.in-Some.ensures c.in-Some-get.ensures

pub removes-requires : goal.removes-requires
removes-requires c = changed_other c.self.invariant c.self.view_is c.in-Some.name.now c.in-Some.ensures c.in-Some-get.ensures

pub returns-in-Some-get : goal.returns-in-Some-get
returns-in-Some-get c = changed_told c.self.invariant c.self.view_is c.in-Some.name.now c.in-Some.ensures c.in-Some-get.ensures c.adds.ensures c.removes.ensures

pub returns-in-None : goal.returns-in-None
returns-in-None c = changed_kept_there c.self.invariant c.self.view_is c.in-Some.name.now c.in-Some.ensures c.in-None.ensures
