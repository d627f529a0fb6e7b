use Rattle.std.proofs.Common.{◌≡◌, ◌≤◌, ◌+◌, ◌<◌, ℕ, cond, nat_eq, take, ap, sym, ◌∙◌, subst, arith}
use Rattle.std.specs.Cmp.Lexicographic.{pointwise}
use Rattle.std.proofs.lemmas.List.Sums.{sum_by_more_le}
use Rattle.fx_active.specs.Indexes.{times_in}
use Rattle.fx_active.proofs.CountLemmas.{own_name}
use Rattle.fx_active.proofs.listings.Listings.unlist.Goals as goal

-- some are left, where one more is within the whole
some_left : (a b n whole : ℕ) → a + 1 ≤ whole → whole ≤ n → a + b ≡ n → 0 < b
some_left a b n whole p q r = omega arith

pub unlist_one-requires-clause-counts : goal.unlist_one-requires-clause-counts
unlist_one-requires-clause-counts g c =
    let x = c.name-item.result in
    let names = c.args.names.now in
    let i = c.loop-name.name-index in
    let more = sum_by_more_le (λ q. cond (pointwise nat_eq q x) 1 0) names i x c.loop-name-test.true in
    let within : times_in (take i names) x + 1 ≤ times_in names x =
    subst (λ n. times_in (take i names) x + n ≤ times_in names x) (ap (λ q. cond (pointwise nat_eq q x) 1 0) (sym c.name-item.is) ∙ ap (λ b. cond b 1 0) (own_name x)) more in
    some_left _ _ _ _ within (c.requires.counts x) (c.loop-name.invariant.counts x)
