use Rattle.std.proofs.Common.{ap, ◌∙◌, subst, ℕ, List}
use Rattle.std.specs.FinMap.{from_entries}
use Rattle.fx_base.specs.TextPlaces.{StandsAt, BelongsAt}
use Rattle.fx_base.proofs.TextPlaces.{put_between, added_ascends, stands_inside, belongs_inside}
use Rattle.fx_selector.proofs.LabelPlaces.{put_over, written_ascends}
use Rattle.fx_selector.proofs.labels.Labels.put_text.Goals as goal

pub place-requires : goal.place-requires
place-requires c = rw c.deref.ensures.value c.self.invariant

pub index_mut-requires : goal.index_mut-requires
index_mut-requires c = rw c.deref.ensures.len at (stands_inside c.bytes.result.now _ _ c.in-Ok.ensures.found)

pub insert-requires : goal.insert-requires
insert-requires c = rw c.deref.ensures.len at (belongs_inside c.bytes.result.now _ _ c.in-Err.ensures.missing)

pub invariant_of-self : goal.invariant_of-self
invariant_of-self c =
    let there = subst (λ (es : List (List ℕ × List ℕ)). StandsAt c.bytes.result.now es c.in-Ok.at) c.deref.ensures.value c.in-Ok.ensures.found in
    rw c.index_mut.ensures.value (written_ascends _ c.self.invariant _ _ c.args.value (stands_inside c.bytes.result.now _ _ there))

pub invariant_of-self-in-Continue-1 : goal.invariant_of-self-in-Continue-1
invariant_of-self-in-Continue-1 c =
    let free = subst (λ (es : List (List ℕ × List ℕ)). BelongsAt c.bytes.result.now es c.in-Err.at) c.deref.ensures.value c.in-Err.ensures.missing in
    rw c.in_ok-insert-in-Err.ensures.items (added_ascends c.args.key c.args.value _ c.self.invariant _ (subst (λ k. BelongsAt k c.self.inside.held.items c.in-Err.at) c.bytes.ensures free))

pub returns-in-Ok : goal.returns-in-Ok
returns-in-Ok c =
    let there = subst (λ (es : List (List ℕ × List ℕ)). StandsAt c.bytes.result.now es c.in-Ok.at) c.deref.ensures.value c.in-Ok.ensures.found in
    let put = put_over _ _ c.self.view_is c.self.invariant c.args.key c.args.value c.in-Ok.at (subst (λ k. StandsAt k c.self.inside.held.items c.in-Ok.at) c.bytes.ensures there) c.index_mut.result.now in
    rw (← c.index_mut.ensures.value) at put

pub returns-in_ok-insert-in-Err : goal.returns-in_ok-insert-in-Err
returns-in_ok-insert-in-Err c =
    let free = subst (λ (es : List (List ℕ × List ℕ)). BelongsAt c.bytes.result.now es c.in-Err.at) c.deref.ensures.value c.in-Err.ensures.missing in
    ap from_entries c.in_ok-insert-in-Err.ensures.items
    ∙ put_between _ _ c.self.view_is c.self.invariant c.args.key c.args.value c.in-Err.at (subst (λ k. BelongsAt k c.self.inside.held.items c.in-Err.at) c.bytes.ensures free)
