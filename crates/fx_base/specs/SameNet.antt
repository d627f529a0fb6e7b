-- Addresses, nets, ports and protocols that `==` does not tell apart are one.
use Rattle.std.specs.Prelude.{◌≡◌, ◌≤◌, ◌-◌, ◌*◌, ◌/◌, ◌^◌, ℕ}
use Rattle.std.proofs.Common.{subst}
use Rattle.std.proofs.Math.Bridge.{le_prop}
use Rattle.std.proofs.Math.Nat.{ℕ_set}
use Rattle.fx_base.specs.declared.net.Ipv4.{Ipv4}
use Rattle.fx_base.specs.declared.net.Net.{Net}
use Rattle.fx_base.specs.declared.net.PortRange.{PortRange}

-- facts on numbers have one proof at most
one_bound : (a b : ℕ) (p q : a ≤ b) → p ≡ q
one_bound a b p q = le_prop p q

one_equation : (a b : ℕ) (p q : a ≡ b) → p ≡ q
one_equation a b p q = ℕ_set a b p q

pub same_net : (x y : Net) → x.addr ≡ y.addr → x.len ≡ y.len → x ≡ y
same_net x y p q =
    let AsBuilt : Ipv4 → ℕ → Type 0 = λ a l. (short : l ≤ 32) (whole : 2 ^ (32 - l) * (a.0 / 2 ^ (32 - l)) ≡ a.0) → x ≡ record { addr = a; len = l; short = short; no_host_bits = whole } in
    let here : AsBuilt x.addr x.len = λ short whole i. record { addr = x.addr; len = x.len; short = one_bound x.len 32 x.short short i; no_host_bits = one_equation _ _ x.no_host_bits whole i } in
    subst (λ (l : ℕ). AsBuilt y.addr l) q (subst (λ (a : Ipv4). AsBuilt a x.len) p here) y.short y.no_host_bits

pub same_ports : (x y : PortRange) → x.low ≡ y.low → x.high ≡ y.high → x ≡ y
same_ports x y p q =
    let AsBuilt : ℕ → ℕ → Type 0 = λ l h. (ascending : l ≤ h) → x ≡ record { low = l; high = h; ascending = ascending } in
    let here : AsBuilt x.low x.high = λ ascending i. record { low = x.low; high = x.high; ascending = one_bound x.low x.high x.ascending ascending i } in
    subst (λ (h : ℕ). AsBuilt y.low h) q (subst (λ (l : ℕ). AsBuilt l x.high) p here) y.ascending
