use Rattle.std.proofs.Common.{is_some, sym, ap, ◌∙◌}
use Rattle.fx_base.proofs.Cases.{absent_value}
use Rattle.fx_sequencer.proofs.OneMember.{known_flagged, known_sides, none_noted, new_flagged, new_sides, first_flagged, first_sides}
use Rattle.fx_sequencer.proofs.set_entry.SetEntry.put.Goals as goal

pub put_known-requires : goal.put_known-requires
put_known-requires c = sym (c.is_some.ensures ∙ ap is_some c.get.ensures) ∙ c.if-is_some.true

pub invariant_of-self : goal.invariant_of-self
invariant_of-self c = known_flagged c.self.invariant c.self.view_is c.args.member c.requires.there c.requires.absent (sym (c.is_some.ensures ∙ ap is_some c.get.ensures) ∙ c.if-is_some.true) c.put_known.ensures.members c.put_known.ensures.gone

pub returns-then-is_some-clause-ok : goal.returns-then-is_some-clause-ok
returns-then-is_some-clause-ok c = known_sides c.self.invariant c.self.view_is c.args.member c.requires.there c.requires.absent (sym (c.is_some.ensures ∙ ap is_some c.get.ensures) ∙ c.if-is_some.true) c.put_known.ensures.members

pub put_new-requires : goal.put_new-requires
put_new-requires c = none_noted c.self.invariant c.self.view_is c.args.member c.requires.there c.requires.absent (absent_value _ (sym (c.is_some.ensures ∙ ap is_some c.get.ensures) ∙ c.if-is_some.false))

pub invariant_of-self-then-self : goal.invariant_of-self-then-self
invariant_of-self-then-self c = new_flagged c.self.invariant c.self.view_is c.args.member c.requires.there c.requires.absent (absent_value _ (sym (c.is_some.ensures ∙ ap is_some c.get.ensures) ∙ c.if-is_some.false)) c.if-self.true c.in_ok-put_new.ensures.members c.in_ok-put_new.ensures.added

pub returns-then-self-clause-ok : goal.returns-then-self-clause-ok
returns-then-self-clause-ok c = new_sides c.self.invariant c.self.view_is c.args.member c.requires.there c.requires.absent (absent_value _ (sym (c.is_some.ensures ∙ ap is_some c.get.ensures) ∙ c.if-is_some.false)) c.in_ok-put_new.ensures.members

pub invariant_of-self-2 : goal.invariant_of-self-2
invariant_of-self-2 c = first_flagged c.self.invariant c.self.view_is c.args.member c.requires.there c.requires.absent (absent_value _ (sym (c.is_some.ensures ∙ ap is_some c.get.ensures) ∙ c.if-is_some.false)) c.if-self.false c.in_ok-insert.ensures.ok

pub returns-clause-ok : goal.returns-clause-ok
returns-clause-ok c = first_sides c.self.invariant c.self.view_is c.args.member c.requires.there c.requires.absent (absent_value _ (sym (c.is_some.ensures ∙ ap is_some c.get.ensures) ∙ c.if-is_some.false)) c.if-self.false c.in_ok-insert.ensures.ok
