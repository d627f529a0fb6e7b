use Rattle.std.proofs.Common.{is_some, sym, ap, ◌∙◌, subst}
use Rattle.fx_sequencer.specs.Pending.{ArePendingSets, taken_first}
use Rattle.fx_sequencer.proofs.SetMaps.{none_added, added_found, added_maps, added_kept, added_there}
use Rattle.fx_sequencer.proofs.set_entries.SetEntries.send_added.Goals as goal

pub invariant_of-self : goal.invariant_of-self
invariant_of-self c = subst (λ s. ArePendingSets c.self.inside.held s c.self.inside.to_change c.self.inside.to_take) (sym c.in_default.ensures.rest) c.self.invariant

pub returns-in_default-clause-found : goal.returns-in_default-clause-found
returns-in_default-clause-found c = ap is_some (none_added c.self.invariant c.self.view_is c.in_default.ensures.first)

pub returns-in_default-clause-sent : goal.returns-in_default-clause-sent
returns-in_default-clause-sent c = c.self.view_is ∙ ap (λ o. record c.args.self.now { sent = taken_first o c.args.self.now.sent c.args.self.now.wanted }) (none_added c.self.invariant c.self.view_is c.in_default.ensures.first)

pub settle-requires : goal.settle-requires
settle-requires c = ap is_some (added_there c.self.invariant c.self.view_is c.in-Some.name c.in-Some.ensures.first)

pub invariant_of-self-2 : goal.invariant_of-self-2
invariant_of-self-2 c = added_kept c.self.invariant c.self.view_is c.in-Some.name c.in-Some.ensures.first c.settle.ensures c.in-Some.ensures.rest

pub returns-clause-found : goal.returns-clause-found
returns-clause-found c = added_found c.self.invariant c.self.view_is c.in-Some.name c.in-Some.ensures.first

pub returns-clause-sent : goal.returns-clause-sent
returns-clause-sent c = added_maps c.self.invariant c.self.view_is c.in-Some.name c.in-Some.ensures.first c.settle.ensures
