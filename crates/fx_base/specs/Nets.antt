-- Nets in CIDR form, RFC 4632: that of a length around an address, that of one address, and the two halves of that of all addresses.
use Rattle.std.specs.Prelude.{◌≡◌, ◌≤◌, ◌+◌, ◌-◌, ◌*◌, ◌/◌, ◌^◌, ◌==◌, ℕ, List, [], ◌∷◌, if◌then◌else◌}
use Rattle.std.proofs.Common.{lit≤, ap, ◌∙◌}
use Rattle.std.proofs.Math.Nat.{div-one, one-mul, mul-div_cancel_left}
use Rattle.std.proofs.lemmas.Nat.{pow_pos}
use Rattle.fx_base.specs.Addresses.{net_address}
use Rattle.fx_base.specs.declared.net.Ipv4.{Ipv4}
use Rattle.fx_base.specs.declared.net.Net.{Net}

pub no_host_bits : (a len : ℕ) → 2 ^ (32 - len) * (net_address a len / 2 ^ (32 - len)) ≡ net_address a len
no_host_bits a len = ap (λ n. 2 ^ (32 - len) * n) (mul-div_cancel_left (a / 2 ^ (32 - len)) (pow_pos (32 - len)))

pub one_address : (n : ℕ) → 2 ^ (32 - 32) * (n / 2 ^ (32 - 32)) ≡ n
one_address n = one-mul (n / 1) ∙ div-one n

-- the net of this length in which the address lies
abbrev pub around : ℕ → (len : ℕ) → len ≤ 32 → Net
around a len short = record { addr = record { 0 = net_address a len }; len = len; short = short; no_host_bits = no_host_bits a len }

-- the net of this address alone
abbrev pub host : Ipv4 → Net
host a = record { addr = a; len = 32; short = lit≤ tt; no_host_bits = one_address a.0 }

-- the halves of a net of length 0
abbrev pub lower_half : Net → Net
lower_half n = around n.addr.0 1 (lit≤ tt)

abbrev pub upper_half : Net → Net
upper_half n = around (n.addr.0 + 2 ^ 31) 1 (lit≤ tt)

-- the net, or its two halves where it is that of all addresses
abbrev pub stored : Net → List Net
stored n = if n.len == 0 then lower_half n ∷ upper_half n ∷ [] else n ∷ []
