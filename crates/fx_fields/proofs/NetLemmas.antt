-- The nets and ports that are read are those of their numbers.
use Rattle.std.proofs.Common.{◌≡◌, ℕ, true, false, List, refl, sym, ap, ◌∙◌}
use Rattle.std.specs.Prelude.{min, ◌==◌, Contains}
use Rattle.std.proofs.Math.Nat.{min-eq_left}
use Rattle.std.proofs.lemmas.Bool.{false≢true}
use Rattle.std.proofs.lemmas.List.Folds.{list_any_at}
use Rattle.fx_base.specs.declared.net.Net.{Net}
use Rattle.fx_base.specs.declared.net.PortRange.{PortRange}
use Rattle.fx_base.specs.SameNet.{same_net, same_ports}
use Rattle.fx_base.specs.Addresses.{net_address}
use Rattle.fx_fields.specs.Values.{cidr, range, has_colon}

pub is_cidr : (net : Net) → cidr net.addr.0 net.len ≡ net
is_cidr net =
    let address : net_address net.addr.0 (min net.len 32) ≡ net.addr.0 = ap (λ (l : ℕ). net_address net.addr.0 l) (min-eq_left net.short) ∙ net.no_host_bits in
    same_net (cidr net.addr.0 net.len) net (λ i. record { 0 = address i }) (min-eq_left net.short)

pub is_range : (ports : PortRange) → range ports.low ports.high ≡ ports
is_range ports = same_ports (range ports.low ports.high) ports (min-eq_left ports.ascending) refl

pub no_colon : (s : List ℕ) → has_colon s ≡ false → ¬ Contains s 58
no_colon s none there =
    let found : has_colon s ≡ true = list_any_at (λ (b : ℕ). b == 58) s there.0 58 there.1 (ap (λ (b : ℕ). b == 58) there.2) in
    false≢true (sym none ∙ found)
