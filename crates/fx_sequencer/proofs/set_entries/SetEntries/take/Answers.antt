use Rattle.std.proofs.Common.{is_some, sym, ap, ◌∙◌}
use Rattle.std.specs.Option.{option_and_then}
use Rattle.fx_base.proofs.Cases.{absent_value}
use Rattle.fx_sequencer.specs.Pending.{sent_set}
use Rattle.fx_sequencer.proofs.SetKeeping.{unsent_set, off_pending}
use Rattle.fx_sequencer.proofs.SetMaps.{wanted_as, dropped_maps, off_maps}
use Rattle.fx_sequencer.proofs.set_entries.SetEntries.take.Goals as goal

pub invariant_of-self : goal.invariant_of-self
invariant_of-self c =
    unsent_set c.self.invariant c.args.name.now c.remove.ensures.removed
    (absent_value _ (sym (c.was_sent.ensures ∙ ap (λ e. is_some (option_and_then sent_set e)) c.get.ensures) ∙ c.if-not-was_sent.true)) c.remove-then-not-was_sent.ensures.removed

pub returns-then-not-was_sent-clause-ok : goal.returns-then-not-was_sent-clause-ok
returns-then-not-was_sent-clause-ok c =
    dropped_maps c.self.invariant c.self.view_is c.args.name.now
    (absent_value _ (sym (c.was_sent.ensures ∙ ap (λ e. is_some (option_and_then sent_set e)) c.get.ensures) ∙ c.if-not-was_sent.true)) c.remove.ensures.removed

pub turn_off-requires : goal.turn_off-requires
turn_off-requires c = sym (wanted_as c.self.invariant c.self.view_is c.args.name.now) ∙ c.requires

pub invariant_of-self-2 : goal.invariant_of-self-2
invariant_of-self-2 c =
    off_pending c.self.invariant c.args.name.now c.turn_off.ensures
    (sym (c.was_sent.ensures ∙ ap (λ e. is_some (option_and_then sent_set e)) c.get.ensures) ∙ c.if-not-was_sent.false) c.remove-2.ensures.removed c.in_ok-insert.ensures.ok

pub returns-clause-ok : goal.returns-clause-ok
returns-clause-ok c = off_maps c.self.invariant c.self.view_is c.args.name.now c.turn_off.ensures
