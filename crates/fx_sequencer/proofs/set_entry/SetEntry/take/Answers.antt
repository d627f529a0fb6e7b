use Rattle.std.proofs.Common.{sym, ◌∙◌}
use Rattle.fx_sequencer.proofs.OneMember.{told_there, told_flagged, told_sides, untold_flagged, untold_sides}
use Rattle.fx_sequencer.proofs.set_entry.SetEntry.take.Goals as goal

pub take_told-requires : goal.take_told-requires
take_told-requires c = told_there c.self.invariant c.self.view_is c.args.member c.requires.there (sym c.was_told.ensures ∙ c.if-was_told.true)

pub invariant_of-self-then-was_told : goal.invariant_of-self-then-was_told
invariant_of-self-then-was_told c = told_flagged c.self.invariant c.self.view_is c.args.member c.requires.there (sym c.was_told.ensures ∙ c.if-was_told.true) c.in_ok-take_told.ensures.members c.in_ok-take_told.ensures.gone

pub returns-then-was_told-clause-ok : goal.returns-then-was_told-clause-ok
returns-then-was_told-clause-ok c = told_sides c.self.invariant c.self.view_is c.args.member c.requires.there (sym c.was_told.ensures ∙ c.if-was_told.true) c.in_ok-take_told.ensures.members

pub invariant_of-self-2 : goal.invariant_of-self-2
invariant_of-self-2 c = untold_flagged c.self.invariant c.self.view_is c.args.member c.requires.there (sym c.was_told.ensures ∙ c.if-was_told.false) c.remove.ensures.removed c.remove-2.ensures.removed

pub returns-clause-ok : goal.returns-clause-ok
returns-clause-ok c = untold_sides c.self.invariant c.self.view_is c.args.member c.requires.there (sym c.was_told.ensures ∙ c.if-was_told.false) c.remove.ensures.removed
