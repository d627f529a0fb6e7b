use Rattle.std.proofs.Common.{sym, ap, ◌∙◌, subst, Some, ℕ, List}
use Rattle.std.specs.Cmp.Lexicographic.{nat_list_cmp_total}
use Rattle.fx_base.proofs.Entries.{got}
use Rattle.fx_base.specs.TextPlaces.{StandsAt, BelongsAt}
use Rattle.fx_base.proofs.TextPlaces.{found_there, missing_there, stands_inside}
use Rattle.fx_selector.proofs.labels.Labels.get.Goals as goal

pub place-requires : goal.place-requires
place-requires c = rw c.deref.ensures.value c.self.invariant

pub index-requires : goal.index-requires
index-requires c = rw c.deref.ensures.len at (stands_inside c.args.key.now _ _ c.in-Ok.ensures.found)

pub returns-in-Ok : goal.returns-in-Ok
returns-in-Ok c =
    let there = subst (λ (es : List (List ℕ × List ℕ)). StandsAt c.args.key.now es c.in-Ok.at) c.deref.ensures.value c.in-Ok.ensures.found in
    got nat_list_cmp_total _ _ c.self.view_is _ _ (ap Some (c.bytes.ensures ∙ ap (λ p. p.1) c.index.ensures) ∙ sym (found_there c.args.key.now _ _ there _))

pub returns-in-Err : goal.returns-in-Err
returns-in-Err c =
    let free = subst (λ (es : List (List ℕ × List ℕ)). BelongsAt c.args.key.now es c.in-Err.field-0) c.deref.ensures.value c.in-Err.ensures.missing in
    got nat_list_cmp_total _ _ c.self.view_is _ _ (sym (missing_there c.args.key.now _ c.self.invariant _ free))
