-- The net of a length around an address, and the halves of the net of all addresses.
use Rattle.std.proofs.Common.{◌≡◌, ◌≤◌, ◌<◌, ◌+◌, ◌-◌, ◌*◌, ◌/◌, ◌^◌, ℕ, Option, Some, sym, ap, ◌∙◌, subst, arith, lit≤, bit_or}
use Rattle.fx_base.specs.Addresses.{net_address}
use Rattle.fx_base.specs.Nets.{around, lower_half, upper_half}
use Rattle.fx_base.specs.SameNet.{same_net}
use Rattle.fx_base.specs.declared.net.Net.{Net}

-- a net is the one of its length around each address without whose host bits it is
pub is_around : (n : Net) (a len : ℕ) (short : len ≤ 32) → n.addr.0 ≡ net_address a len → n.len ≡ len → n ≡ around a len short
is_around n a len short address length = same_net n (around a len short) (λ i. record { 0 = address i }) length

-- of 32 bits, the net of length 0 begins at 0
begins_at_zero : (n : Net) → n.len ≡ 0 → n.addr.0 < 2 ^ 32 → n.addr.0 ≡ 0
begins_at_zero n none fits =
    let whole : 2 ^ (32 - 0) * (n.addr.0 / 2 ^ (32 - 0)) ≡ n.addr.0 = subst (λ (l : ℕ). 2 ^ (32 - l) * (n.addr.0 / 2 ^ (32 - l)) ≡ n.addr.0) none n.no_host_bits in
    omega (arith, whole, fits)

abbrev pub both : Net → Net → Option (Net × Net)
both l u = Some (l, u)

pub halves_are : (n l u : Net) → n.len ≡ 0 → n.addr.0 < 2 ^ 32 → l.addr.0 ≡ net_address n.addr.0 1 → l.len ≡ 1 → u.addr.0 ≡ net_address (bit_or n.addr.0 2147483648) 1 → u.len ≡ 1 → both l u ≡ both (lower_half n) (upper_half n)
halves_are n l u none fits first one second other =
    let zero = begins_at_zero n none fits in
    let lower : l ≡ lower_half n = is_around l n.addr.0 1 (lit≤ tt) first one in
    let upper : u ≡ upper_half n =
    is_around u (n.addr.0 + 2 ^ 31) 1 (lit≤ tt)
    (second ∙ ap (λ a. net_address (bit_or a 2147483648) 1) zero ∙ sym (ap (λ a. net_address (a + 2 ^ 31) 1) zero)) other in
    λ i. Some (lower i, upper i)
