-- Items that are tested to give the same do so, to each set.
use Rattle.std.proofs.Common.{◌≡◌, ℕ, true, List, Option, Some, None, refl, ap}
use Rattle.std.specs.Prelude.{filter, map}
use Rattle.std.specs.List.{flat_map}
use Rattle.fx_base.specs.Nets.{host, stored}
use Rattle.fx_base.specs.Same.{same_numbers, same_list, both_pass}
use Rattle.fx_base.specs.contracts.net.Ipv4PartialEq.TheImpl as address
use Rattle.fx_base.specs.declared.net.Ipv4.{Ipv4}
use Rattle.fx_base.specs.declared.net.Net.{Net}
use Rattle.fx_base.specs.declared.net.Proto.{Proto}
use Rattle.fx_model.specs.SameRules.{same_cidr, same_endpoint_port}
use Rattle.fx_model.specs.Sets.{contributed, contributed_by, is_port, ports_at}
use Rattle.fx_model.specs.declared.member.Member.{Member}
use Rattle.fx_model.specs.declared.member.Member.TheVariants as member
use Rattle.fx_model.specs.declared.policy.NetSet.{NetSet}
use Rattle.fx_model.specs.declared.resources.Endpoint.{Endpoint}
use Rattle.fx_model.specs.declared.resources.Item.{Item}
use Rattle.fx_model.specs.declared.resources.Item.TheVariants as item
use Rattle.fx_model.specs.declared.set_use.SetUse.{SetUse}
use Rattle.fx_members.specs.Counts.{gives, times}
use Rattle.fx_members.specs.Giving.{same_given, gives_same}

one_address : (x y : Ipv4) → address.eq-value.it x y ≡ true → x ≡ y
one_address x y e = λ i. record { 0 = same_numbers x.0 y.0 e i }

endpoints_give : (a b : Endpoint) → a.addresses ≡ b.addresses → a.ports ≡ b.ports → (p : Option (Proto × List ℕ)) → contributed_by p (item.Endpoint a) ≡ contributed_by p (item.Endpoint b)
endpoints_give a b addresses ports None = ap (λ (is : List Ipv4). map member.Net (flat_map stored (map host is))) addresses
endpoints_give a b addresses ports (Some p) = λ i. flat_map (ports_at (filter (is_port p.0 p.1) (ports i))) (addresses i)

net_sets_give : (a b : NetSet) → a.nets ≡ b.nets → (p : Option (Proto × List ℕ)) → contributed_by p (item.NetSet a) ≡ contributed_by p (item.NetSet b)
net_sets_give a b nets None = ap (λ (ns : List Net). map member.Net (flat_map stored ns)) nets
net_sets_give a b nets (Some p) = refl

same_contributed : (x y : Item) → same_given x y ≡ true → (u : SetUse) → contributed u x ≡ contributed u y
same_contributed (item.Endpoint a) (item.Endpoint b) e u =
    let p = both_pass _ _ e in
    endpoints_give a b (same_list _ one_address a.addresses b.addresses p.0) (same_list _ same_endpoint_port a.ports b.ports p.1) u.port
same_contributed (item.NetSet a) (item.NetSet b) e u = net_sets_give a b (same_list _ same_cidr a.nets b.nets e) u.port
same_contributed x y e u = cc

pub same_gives : (o : Option Item) (x : Item) → gives_same o x ≡ true → (s : Option SetUse) (m : Member) → gives s o m ≡ gives s (Some x) m
same_gives None x e s m = cc
same_gives (Some y) x e None m = refl
same_gives (Some y) x e (Some u) m = ap (λ ms. times ms m) (same_contributed y x e u)
