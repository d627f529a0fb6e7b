use Rattle.std.proofs.Common.{is_some, sym, ap, ◌∙◌}
use Rattle.std.specs.Option.{option_and_then}
use Rattle.fx_base.specs.Set as set
use Rattle.fx_base.proofs.Cases.{absent_value}
use Rattle.fx_sequencer.specs.Entry.{sent_of}
use Rattle.fx_sequencer.proofs.EntryMaps.{kept_there, unsent_maps, withdrawn_maps}
use Rattle.fx_sequencer.proofs.Keeping.{unsent_pending, withdrawn_pending}
use Rattle.fx_sequencer.proofs.text_entries.TextEntries.take.Goals as goal

pub invariant_of-self : goal.invariant_of-self
invariant_of-self g c =
    unsent_pending c.self.invariant c.args.key.now c.remove.ensures.removed
    (absent_value _ (sym (c.was_sent.ensures ∙ ap (λ e. is_some (option_and_then sent_of e)) c.get.ensures) ∙ c.if-not-was_sent.true)) c.remove-then-not-was_sent.ensures

pub returns-then-not-was_sent-clause-ok : goal.returns-then-not-was_sent-clause-ok
returns-then-not-was_sent-clause-ok g c =
    unsent_maps c.self.invariant c.self.view_is c.args.key.now
    (absent_value _ (sym (c.was_sent.ensures ∙ ap (λ e. is_some (option_and_then sent_of e)) c.get.ensures) ∙ c.if-not-was_sent.true)) c.remove.ensures.removed

pub withdraw-requires : goal.withdraw-requires
withdraw-requires g c = kept_there c.self.invariant c.self.view_is c.args.key.now c.requires

pub invariant_of-self-2 : goal.invariant_of-self-2
invariant_of-self-2 g c =
    withdrawn_pending c.self.invariant c.args.key.now c.withdraw.ensures
    (sym (c.was_sent.ensures ∙ ap (λ e. is_some (option_and_then sent_of e)) c.get.ensures) ∙ c.if-not-was_sent.false) c.remove-2.ensures (c.in_ok-insert.ensures.ok ∙ ap (set.insert c.self.inside.to_take) c.in_ok-clone.ensures.cases)

pub returns-clause-ok : goal.returns-clause-ok
returns-clause-ok g c = withdrawn_maps c.self.invariant c.self.view_is c.args.key.now c.withdraw.ensures
