use Rattle.std.proofs.Common.{is_some, sym, ap, ◌∙◌, subst}
use Rattle.fx_sequencer.specs.Pending.{ArePending, taken_first}
use Rattle.fx_sequencer.proofs.EntryMaps.{none_put, put_found, put_there, sent_maps, sent_pending, entry_there}
use Rattle.fx_sequencer.proofs.name_entries.NameEntries.send_put.Goals as goal

pub invariant_of-self : goal.invariant_of-self
invariant_of-self g c = subst (λ s. ArePending g.V.PartialEq.eq c.self.inside.held s c.self.inside.to_take) (sym c.in_default.ensures.rest) c.self.invariant

pub returns-in_default-clause-found : goal.returns-in_default-clause-found
returns-in_default-clause-found g c = ap is_some (none_put c.self.invariant c.self.view_is c.in_default.ensures.first)

pub returns-in_default-clause-sent : goal.returns-in_default-clause-sent
returns-in_default-clause-sent g c = c.self.view_is ∙ ap (λ o. record c.args.self.now { sent = taken_first o c.args.self.now.sent c.args.self.now.wanted }) (none_put c.self.invariant c.self.view_is c.in_default.ensures.first)

pub settle-requires : goal.settle-requires
settle-requires g c = entry_there c.self.inside.held c.in-Some.name _ (put_there c.self.invariant c.self.view_is c.in-Some.name c.in-Some.ensures.first)

pub invariant_of-self-2 : goal.invariant_of-self-2
invariant_of-self-2 g c = sent_pending c.self.invariant c.self.view_is c.in-Some.name c.in-Some.ensures.first g.met.V.Eq.laws.refl c.settle.ensures c.in-Some.ensures.rest

pub returns-clause-found : goal.returns-clause-found
returns-clause-found g c = put_found c.self.invariant c.self.view_is c.in-Some.name c.in-Some.ensures.first

pub returns-clause-sent : goal.returns-clause-sent
returns-clause-sent g c = sent_maps c.self.invariant c.self.view_is c.in-Some.name c.in-Some.ensures.first g.met.V.Eq.laws.refl c.settle.ensures
