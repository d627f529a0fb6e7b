use Rattle.std.proofs.Common.{is_some, sym, ap, ◌∙◌, subst}
use Rattle.fx_sequencer.specs.Pending.{ArePending, taken_first}
use Rattle.fx_sequencer.proofs.EntryMaps.{none_taken, taken_found, gone_maps, gone_pending}
use Rattle.fx_sequencer.proofs.text_entries.TextEntries.send_taken.Goals as goal

pub invariant_of-self : goal.invariant_of-self
invariant_of-self g c = subst (ArePending g.V.PartialEq.eq c.self.inside.held c.self.inside.to_put) (sym c.in_default.ensures.rest) c.self.invariant

pub returns-in_default-clause-found : goal.returns-in_default-clause-found
returns-in_default-clause-found g c = ap is_some (none_taken c.self.invariant c.self.view_is c.in_default.ensures.first)

pub returns-in_default-clause-sent : goal.returns-in_default-clause-sent
returns-in_default-clause-sent g c = c.self.view_is ∙ ap (λ o. record c.args.self.now { sent = taken_first o c.args.self.now.sent c.args.self.now.wanted }) (none_taken c.self.invariant c.self.view_is c.in_default.ensures.first)

pub invariant_of-self-2 : goal.invariant_of-self-2
invariant_of-self-2 g c = gone_pending c.self.invariant c.self.view_is c.in-Some.key c.in-Some.ensures.first c.remove.ensures.removed c.in-Some.ensures.rest

pub returns-clause-found : goal.returns-clause-found
returns-clause-found g c = taken_found c.self.invariant c.self.view_is c.in-Some.key c.in-Some.ensures.first

pub returns-clause-sent : goal.returns-clause-sent
returns-clause-sent g c = gone_maps c.self.invariant c.self.view_is c.in-Some.key c.in-Some.ensures.first c.remove.ensures.removed
