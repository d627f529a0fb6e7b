use Rattle.std.proofs.Common.{subst}
use Rattle.fx_base.specs.TextPlaces.{StandsAt, BelongsAt}
use Rattle.fx_text_sets.proofs.Places.{Entries, found_in, missing_in}
use Rattle.fx_text_sets.proofs.text_set.TextSet.contains.Goals as goal

pub place-requires : goal.place-requires
place-requires c = rw c.deref.ensures.value c.self.invariant

pub returns-in-Ok : goal.returns-in-Ok
returns-in-Ok c =
    let there = subst (λ (es : Entries). StandsAt c.args.text.now es c.in-Ok.field-0) c.deref.ensures.value c.in-Ok.ensures.found in
    found_in c.args.text.now _ _ c.self.view_is _ there

pub returns-in-Err : goal.returns-in-Err
returns-in-Err c =
    let free = subst (λ (es : Entries). BelongsAt c.args.text.now es c.in-Err.field-0) c.deref.ensures.value c.in-Err.ensures.missing in
    missing_in c.args.text.now _ _ c.self.view_is c.self.invariant _ free
