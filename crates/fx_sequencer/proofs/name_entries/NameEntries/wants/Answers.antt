use Rattle.std.proofs.Common.{◌≡◌, ◌↔◌, IsTrue, Some, sym, ap, ◌∙◌, subst}
use Rattle.std.specs.Option.{option_and_then}
use Rattle.fx_sequencer.specs.Entry.{wanted_of}
use Rattle.fx_sequencer.proofs.EntryMaps.{wanted_as}
use Rattle.fx_sequencer.proofs.name_entries.NameEntries.wants.Goals as goal

pub returns : goal.returns
returns g c =
    subst (λ o. IsTrue c.is_value.result ↔ (o ≡ Some c.args.value.now))
    (c.wanted_at.ensures ∙ ap (option_and_then wanted_of) c.get.ensures ∙ sym (wanted_as c.self.invariant c.self.view_is c.args.name.now))
    c.is_value.ensures
