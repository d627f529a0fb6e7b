-- The order of members is total, and only members that `==` holds for stand at one place.
use Rattle.std.specs.Prelude.{◌≡◌, ℕ, ◌&&◌, Some, refl}
use Rattle.std.specs.Ordering.{nat_cmp, ordering_then, eq_by_cmp, is_eq}
use Rattle.std.specs.declared.cmp.Ordering.{Ordering}
use Rattle.std.specs.declared.cmp.Ordering.TheVariants.{Less, Equal, Greater}
use Rattle.std.specs.Cmp.{IsTotalOrder, IsPartialOrder, nat_cmp_total, unsigned_ties, po}
use Rattle.std.proofs.Common.{ap, subst, ◌∙◌}
use Rattle.std.proofs.lemmas.Cmp.{on_total, then_total}
use Rattle.fx_model.specs.MemberOrder.{members_compared}
use Rattle.fx_model.specs.declared.member.Member.{Member}
use Rattle.fx_model.specs.declared.member.Member.TheVariants.{Net, PortAt}
use Rattle.fx_model.specs.contracts.member.MemberPartialEq.TheImpl.{eq-value}

-- a member as numbers, which are compared from the left
abbrev Parts : Type 0
Parts = ℕ × ℕ × ℕ × ℕ

abbrev parts : Member → Parts
parts (Net a) = (0, a.addr.0, a.len, 0)
parts (PortAt a p n) = (1, a.0, p.0, n)

abbrev parts_compared : Parts → Parts → Ordering
parts_compared x y = ordering_then (nat_cmp x.0 y.0) (ordering_then (nat_cmp x.1 y.1) (ordering_then (nat_cmp x.2 y.2) (nat_cmp x.3 y.3)))

parts_total : IsTotalOrder parts_compared
parts_total =
    then_total (on_total (λ (x : Parts). x.0) nat_cmp_total)
    (then_total (on_total (λ (x : Parts). x.1) nat_cmp_total)
    (then_total (on_total (λ (x : Parts). x.2) nat_cmp_total) (on_total (λ (x : Parts). x.3) nat_cmp_total)))

nothing_behind : (r : Ordering) → ordering_then r Equal ≡ r
nothing_behind Less = refl
nothing_behind Equal = refl
nothing_behind Greater = refl

by_parts : (a b : Member) → parts_compared (parts a) (parts b) ≡ members_compared a b
by_parts (Net a) (Net b) = ap (ordering_then (nat_cmp a.addr.0 b.addr.0)) (nothing_behind (nat_cmp a.len b.len))
by_parts (Net a) (PortAt addr proto number) = refl
by_parts (PortAt addr proto number) (Net b) = refl
by_parts (PortAt a p m) (PortAt b q n) = refl

pub members_total : IsTotalOrder members_compared
members_total = subst IsTotalOrder (λ i. λ a b. by_parts a b i) (on_total parts parts_total)

both_tie : (r s : Ordering) → (is_eq r && is_eq s) ≡ is_eq (ordering_then r s)
both_tie Less s = refl
both_tie Equal s = refl
both_tie Greater s = refl

pub members_tie : (a b : Member) → eq-value.it a b ≡ eq_by_cmp members_compared a b
members_tie (Net a) (Net b) =
    (λ i. unsigned_ties a.addr.0 b.addr.0 i && unsigned_ties a.len b.len i)
    ∙ both_tie (nat_cmp a.addr.0 b.addr.0) (nat_cmp a.len b.len)
members_tie (Net a) (PortAt addr proto number) = refl
members_tie (PortAt addr proto number) (Net b) = refl
members_tie (PortAt a p m) (PortAt b q n) =
    (λ i. unsigned_ties a.0 b.0 i && (unsigned_ties p.0 q.0 i && unsigned_ties m n i))
    ∙ ap (λ t. is_eq (nat_cmp a.0 b.0) && t) (both_tie (nat_cmp p.0 q.0) (nat_cmp m n))
    ∙ both_tie (nat_cmp a.0 b.0) (ordering_then (nat_cmp p.0 q.0) (nat_cmp m n))

pub members_po : IsPartialOrder eq-value.it (λ a b. Some (members_compared a b))
members_po = po members_total members_tie
