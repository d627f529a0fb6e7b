use Rattle.std.proofs.Common.{ap, ◌∙◌, subst}
use Rattle.std.specs.FinMap.{from_entries}
use Rattle.fx_base.specs.TextPlaces.{StandsAt, BelongsAt}
use Rattle.fx_base.proofs.TextPlaces.{stands_inside}
use Rattle.fx_text_sets.proofs.Places.{Entries, found_in, missing_in, taken_out, nothing_out, removed_ascends}
use Rattle.fx_text_sets.proofs.text_set.TextSet.remove.Goals as goal

pub place-requires : goal.place-requires
place-requires c = rw c.deref.ensures.value c.self.invariant

pub remove-requires : goal.remove-requires
remove-requires c = rw c.deref.ensures.len at (stands_inside c.args.text.now _ _ c.in-Ok.ensures.found)

pub invariant_of-self : goal.invariant_of-self
invariant_of-self c = rw c.remove.ensures.items (removed_ascends _ c.self.invariant _)

pub returns-in-Ok-clause-found : goal.returns-in-Ok-clause-found
returns-in-Ok-clause-found c =
    let there = subst (λ (es : Entries). StandsAt c.args.text.now es c.in-Ok.at) c.deref.ensures.value c.in-Ok.ensures.found in
    found_in c.args.text.now _ _ c.self.view_is _ there

pub returns-in-Ok-clause-removed : goal.returns-in-Ok-clause-removed
returns-in-Ok-clause-removed c =
    let there = subst (λ (es : Entries). StandsAt c.args.text.now es c.in-Ok.at) c.deref.ensures.value c.in-Ok.ensures.found in
    ap from_entries c.remove.ensures.items ∙ taken_out _ _ c.self.view_is c.self.invariant c.args.text.now _ there

pub returns-in-Err-clause-found : goal.returns-in-Err-clause-found
returns-in-Err-clause-found c =
    let free = subst (λ (es : Entries). BelongsAt c.args.text.now es c.in-Err.field-0) c.deref.ensures.value c.in-Err.ensures.missing in
    missing_in c.args.text.now _ _ c.self.view_is c.self.invariant _ free

pub returns-in-Err-clause-removed : goal.returns-in-Err-clause-removed
returns-in-Err-clause-removed c =
    let free = subst (λ (es : Entries). BelongsAt c.args.text.now es c.in-Err.field-0) c.deref.ensures.value c.in-Err.ensures.missing in
    nothing_out _ _ c.self.view_is c.self.invariant c.args.text.now _ free
