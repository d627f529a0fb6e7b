use Rattle.std.proofs.Common.{is_some, sym, ap, ◌∙◌}
use Rattle.fx_sequencer.proofs.OneSet.{unsent_other, unwanted_other, added_other, gone_other}
use Rattle.fx_sequencer.proofs.set_entry.SetEntry.is_other.Goals as goal

pub returns-then-not-self : goal.returns-then-not-self
returns-then-not-self c = unsent_other c.self.invariant c.self.view_is c.if-not-self.true

pub returns-then-not-self-2 : goal.returns-then-not-self-2
returns-then-not-self-2 c = unwanted_other c.self.invariant c.self.view_is c.if-not-self-2.true

pub returns-then-is_some : goal.returns-then-is_some
returns-then-is_some c =
    added_other c.self.invariant c.self.view_is c.if-not-self.false c.if-not-self-2.false (sym (c.is_some.ensures ∙ ap is_some c.first_member.ensures) ∙ c.if-is_some.true)

pub returns : goal.returns
returns c =
    gone_other c.self.invariant c.self.view_is c.if-not-self.false c.if-not-self-2.false (sym (c.is_some.ensures ∙ ap is_some c.first_member.ensures) ∙ c.if-is_some.false)
    (c.is_some-2.ensures ∙ ap is_some c.first_member-2.ensures)
