use Rattle.std.proofs.Common.{◌≡◌, ◌<◌, ◌-◌, ◌==◌, unwrap_or, IsSome, subst, refl, sym, ap, ◌∙◌}
use Rattle.std.specs.FinMap as map
use Rattle.fx_base.specs.Same.{same_numbers}
use Rattle.fx_base.proofs.AtKey.{get_insert_same}
use Rattle.fx_active.specs.Indexes.{count_at}
use Rattle.fx_active.proofs.CountLemmas.{lowered_out, lowered_in, left}
use Rattle.fx_active.proofs.listings.Listings.lower.Goals as goal

pub swap-requires-2 : goal.swap-requires-2
swap-requires-2 c =
    subst IsSome (sym (ap (λ m. map.get m c.args.name.now) c.swap.ensures.swapped ∙ get_insert_same c.self.inside.counts c.args.name.now c.new-uses.result)) refl

pub returns-then-is_zero-clause-counts : goal.returns-then-is_zero-clause-counts
returns-then-is_zero-clause-counts c =
    let was : c.swap.new.value ≡ count_at c.args.self.now c.args.name.now =
    sym (ap (λ o. unwrap_or o 0) (ap (λ m. map.get m c.args.name.now) (sym c.self.view_is) ∙ c.swap.ensures.old)) in
    lowered_out c.args.self.now c.remove.new.self c.args.name.now c.swap.new.value was (subst (λ n. 0 < n) (sym was) c.requires)
    (c.remove.ensures.removed ∙ ap (λ m. map.remove m c.args.name.now) (c.swap.ensures.swapped ∙ (λ j. map.insert (c.self.view_is j) c.args.name.now (c.new-uses.ensures j))))
    (sym c.lower.ensures ∙ same_numbers c.lower.new.self 0 (sym c.is_zero.ensures ∙ c.if-is_zero.true))

pub returns-then-is_zero-clause-last : goal.returns-then-is_zero-clause-last
returns-then-is_zero-clause-last c =
    let was : c.swap.new.value ≡ count_at c.args.self.now c.args.name.now =
    sym (ap (λ o. unwrap_or o 0) (ap (λ m. map.get m c.args.name.now) (sym c.self.view_is) ∙ c.swap.ensures.old)) in
    sym (ap (λ n. n == 0) (
    left c.args.self.now c.remove.new.self c.args.name.now (returns-then-is_zero-clause-counts c) ∙ ap (λ n. n - 1) (sym was) ∙ sym c.lower.ensures)
    ∙ sym c.is_zero.ensures ∙ c.if-is_zero.true)

pub returns-clause-counts : goal.returns-clause-counts
returns-clause-counts c =
    let was : c.swap.new.value ≡ count_at c.args.self.now c.args.name.now =
    sym (ap (λ o. unwrap_or o 0) (ap (λ m. map.get m c.args.name.now) (sym c.self.view_is) ∙ c.swap.ensures.old)) in
    lowered_in c.args.self.now c.swap-2.new.self c.args.name.now c.swap.new.value was (subst (λ n. 0 < n) (sym was) c.requires)
    (c.swap-2.ensures.swapped ∙ (λ j. map.insert (c.swap.ensures.swapped j) c.args.name.now (c.lower.ensures j))
    ∙ (λ j. map.insert (map.insert (c.self.view_is j) c.args.name.now (c.new-uses.ensures j)) c.args.name.now (c.swap.new.value - 1)))

pub returns-clause-last : goal.returns-clause-last
returns-clause-last c =
    let was : c.swap.new.value ≡ count_at c.args.self.now c.args.name.now =
    sym (ap (λ o. unwrap_or o 0) (ap (λ m. map.get m c.args.name.now) (sym c.self.view_is) ∙ c.swap.ensures.old)) in
    sym (ap (λ n. n == 0) (
    left c.args.self.now c.swap-2.new.self c.args.name.now (returns-clause-counts c) ∙ ap (λ n. n - 1) (sym was) ∙ sym c.lower.ensures)
    ∙ sym c.is_zero.ensures ∙ c.if-is_zero.false)
