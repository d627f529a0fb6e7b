-- The order of a set's members. Nets come before ports; nets go by their address, then by their length, and ports by their address, then
-- by their protocol, then by their number: the parts of an entry, as ipset(8) writes them, from the left.
use Rattle.std.specs.Ordering.{nat_cmp, ordering_then}
use Rattle.std.specs.declared.cmp.Ordering.{Ordering}
use Rattle.std.specs.declared.cmp.Ordering.TheVariants.{Less, Greater}
use Rattle.fx_model.specs.declared.member.Member.{Member}
use Rattle.fx_model.specs.declared.member.Member.TheVariants.{Net, PortAt}

abbrev pub members_compared : Member → Member → Ordering
members_compared (Net a) (Net b) = ordering_then (nat_cmp a.addr.0 b.addr.0) (nat_cmp a.len b.len)
members_compared (Net a) (PortAt addr proto number) = Less
members_compared (PortAt addr proto number) (Net b) = Greater
members_compared (PortAt a p m) (PortAt b q n) = ordering_then (nat_cmp a.0 b.0) (ordering_then (nat_cmp p.0 q.0) (nat_cmp m n))
