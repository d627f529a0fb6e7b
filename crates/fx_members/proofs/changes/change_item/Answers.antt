use Rattle.std.proofs.Common.{◌≤◌, ℕ, cond, Some, is_some, ap, sym, ◌∙◌, subst}
use Rattle.std.specs.Option.{option_copied}
use Rattle.fx_members.specs.Counts.{count_at, gives, shifted, times}
use Rattle.fx_base.specs.Grouped.{same_text}
use Rattle.fx_members.proofs.ListLemmas.{without_set, without_item}
use Rattle.fx_members.proofs.changes.change_item.Goals as goal

pub returns-in_default-clause-counts : goal.returns-in_default-clause-counts
returns-in_default-clause-counts g c = λ q m.
    without_set c.args.more (same_text q c.args.name) (option_copied c.args.set) (option_copied c.args.item) m (count_at c.args.counts.now q m) (ap option_copied c.in_default.is)

pub returns-in_default-item-clause-counts : goal.returns-in_default-item-clause-counts
returns-in_default-item-clause-counts g c = λ q m.
    without_item c.args.more (same_text q c.args.name) (option_copied c.args.set) (option_copied c.args.item) m (count_at c.args.counts.now q m) (ap option_copied c.in_default-item.is)

pub change_members-requires-clause-there : goal.change_members-requires-clause-there
change_members-requires-clause-there g c = c.requires.there (ap (λ o. is_some (option_copied o)) c.in-Some.is)

pub change_members-requires-clause-counted : goal.change_members-requires-clause-counted
change_members-requires-clause-counted g c = λ less m.
    let n = count_at c.args.counts.now c.args.name m in
    subst (λ ms. times ms m ≤ n) (sym (c.deref.ensures.value ∙ c.in_ok-members.ensures))
    (subst (λ x. gives (Some c.in-Some.set.now) x m ≤ n) (ap option_copied c.in-Some-item.is)
    (subst (λ o. gives o (option_copied c.args.item) m ≤ n) (ap option_copied c.in-Some.is) (c.requires.counted less m)))

pub returns-clause-counts : goal.returns-clause-counts
returns-clause-counts g c = λ q m.
    let n = count_at c.args.counts.now q m in
    let given : ℕ → ℕ = λ k. shifted c.args.more (cond (same_text q c.args.name) k 0) n in
    c.in_ok-change_members.ensures.counts q m
    ∙ ap (λ ms. given (times ms m)) (c.deref.ensures.value ∙ c.in_ok-members.ensures)
    ∙ ap (λ x. given (gives (Some c.in-Some.set.now) x m)) (sym (ap option_copied c.in-Some-item.is))
    ∙ ap (λ o. given (gives o (option_copied c.args.item) m)) (sym (ap option_copied c.in-Some.is))
