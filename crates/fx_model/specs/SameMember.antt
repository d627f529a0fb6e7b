-- `==` tells all members apart.
use Rattle.std.specs.Prelude.{◌≡◌, true, nat_eq, ◌&&◌}
use Rattle.fx_base.specs.Same.{same_numbers, both_pass}
use Rattle.fx_base.specs.SameNet.{same_net}
use Rattle.fx_model.specs.declared.member.Member.{Member}
use Rattle.fx_model.specs.declared.member.Member.TheVariants.{Net, PortAt}
use Rattle.fx_model.specs.contracts.member.MemberPartialEq.TheImpl.{eq-value}

pub same_member : (x y : Member) → eq-value.it x y ≡ true → x ≡ y
same_member (Net a) (Net b) e =
    let p = both_pass (nat_eq a.addr.0 b.addr.0) (nat_eq a.len b.len) e in
    λ i. Net (same_net a b (λ j. record { 0 = same_numbers a.addr.0 b.addr.0 p.0 j }) (same_numbers a.len b.len p.1) i)
same_member (Net a) (PortAt x y z) e = cc
same_member (PortAt x y z) (Net a) e = cc
same_member (PortAt x y z) (PortAt u v w) e =
    let p = both_pass (nat_eq x.0 u.0) (nat_eq y.0 v.0 && nat_eq z w) e in
    let q = both_pass (nat_eq y.0 v.0) (nat_eq z w) p.1 in
    λ i. PortAt (record { 0 = same_numbers x.0 u.0 p.0 i }) (record { 0 = same_numbers y.0 v.0 q.0 i }) (same_numbers z w q.1 i)
