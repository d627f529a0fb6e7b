-- `==` tells all known policies apart.
use Rattle.std.proofs.Common.{◌≡◌, true, subst}
use Rattle.std.specs.Cmp.{signed_Decides}
use Rattle.fx_base.specs.Same.{same_bytes, same_option, same_truths, both_pass}
use Rattle.fx_resolver.specs.declared.known.KnownPolicy.{KnownPolicy}
use Rattle.fx_resolver.specs.contracts.known.KnownPolicyPartialEq.TheImpl as known_eq
use Rattle.fx_resolver.specs.contracts.known.KnownPolicyEq.TheImpl.Laws as known_laws

pub same_known : (x y : KnownPolicy) → known_eq.eq-value.it x y ≡ true → x ≡ y
same_known x y e =
    let p = both_pass _ _ e in
    let q = both_pass _ _ p.1 in
    let r = both_pass _ _ q.1 in
    let s = both_pass _ _ r.1 in
    λ i. record {
      key = same_bytes x.key y.key p.0 i;
      tier = same_bytes x.tier y.tier q.0 i;
      order = same_option _ (λ m n h. (signed_Decides m n).0 h) x.order y.order r.0 i;
      on_ingress = same_truths x.on_ingress y.on_ingress s.0 i;
      on_egress = same_truths x.on_egress y.on_egress s.1 i;
    }

pub known_itself : (x y : KnownPolicy) → x ≡ y → known_eq.eq-value.it x y ≡ true
known_itself x y same = subst (λ (k : KnownPolicy). known_eq.eq-value.it x k ≡ true) same (known_laws.laws-law.refl x)
