use Rattle.std.proofs.Common.{ap, ◌∙◌, subst}
use Rattle.std.specs.FinMap.{from_entries}
use Rattle.fx_base.specs.TextPlaces.{StandsAt, BelongsAt}
use Rattle.fx_base.proofs.TextPlaces.{put_between, added_ascends, belongs_inside}
use Rattle.fx_text_sets.proofs.Places.{Entries, put_again}
use Rattle.fx_text_sets.proofs.text_set.TextSet.insert.Goals as goal

pub place-requires : goal.place-requires
place-requires c = rw c.deref.ensures.value c.self.invariant

pub put_at-requires : goal.put_at-requires
put_at-requires c = rw c.deref.ensures.len at (belongs_inside c.args.text _ _ c.in-Err.ensures.missing)

pub invariant_of-self : goal.invariant_of-self
invariant_of-self c =
    let free = subst (λ (es : Entries). BelongsAt c.args.text es c.in-Err.at) c.deref.ensures.value c.in-Err.ensures.missing in
    rw c.in_ok-put_at-in-Err.ensures.ok (added_ascends c.args.text tt _ c.self.invariant _ free)

pub returns-in-Ok-clause-ok : goal.returns-in-Ok-clause-ok
returns-in-Ok-clause-ok c =
    let there = subst (λ (es : Entries). StandsAt c.args.text es c.in-Ok.field-0) c.deref.ensures.value c.in-Ok.ensures.found in
    put_again _ _ c.self.view_is c.self.invariant c.args.text _ there

pub returns-in_ok-put_at-in-Err-clause-ok : goal.returns-in_ok-put_at-in-Err-clause-ok
returns-in_ok-put_at-in-Err-clause-ok c =
    let free = subst (λ (es : Entries). BelongsAt c.args.text es c.in-Err.at) c.deref.ensures.value c.in-Err.ensures.missing in
    ap from_entries c.in_ok-put_at-in-Err.ensures.ok ∙ put_between _ _ c.self.view_is c.self.invariant c.args.text tt _ free
