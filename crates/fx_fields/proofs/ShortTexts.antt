-- The texts of addresses have at most 15 bytes, those of nets 18, of ports 11, and the names of protocols 7.
use Rattle.std.proofs.Common.{◌≡◌, ◌<◌, ◌≤◌, ◌+◌, ◌^◌, ℕ, suc, Bool, true, ◌&&◌, List, [], ◌∷◌, ◌++◌, length, Option, Some, None, refl, sym, ap, ◌∙◌, arith, inl, inr, lit<}
use Rattle.std.specs.Prelude.{nat_le}
use Rattle.std.specs.Fmt.{decimal}
use Rattle.std.specs.Char.{to_ascii_lowercase}
use Rattle.std.proofs.lemmas.Bool.Decides.{leb_tells}
use Rattle.std.proofs.lemmas.Fmt.{length-decimal-le}
use Rattle.std.proofs.lemmas.List.{length-append, length-map}
use Rattle.fx_base.specs.Same.{both_pass}
use Rattle.fx_base.specs.Addresses.{IsAddress, IsNet}
use Rattle.fx_base.specs.Forms.{IsNumber, IsOptional}
use Rattle.fx_base.specs.PortTexts.{IsPortRange}
use Rattle.fx_base.specs.Protocols.{IsNamedIn, protocols}
use Rattle.fx_base.specs.TextValues.{address_of, net_of, ports_of, protocol_of}
use Rattle.fx_base.proofs.ValueLemmas.{address_computes, net_computes, ports_computes, protocol_computes}

none_of : {A : Type 0} (o : Option A) → ((n : A) → o ≡ Some n → ⊥) → o ≡ None
none_of None never = refl
none_of (Some n) never = absurd (never n refl)

at_least : (a b : ℕ) → nat_le a b ≡ true → a ≤ b
at_least a b e = elim (leb_tells a b) [ inl known ↦ known.1 | inr less ↦ cc (less.0) ]

-- ---- addresses

byte_short : (n : ℕ) → n < 256 → length (decimal n) ≤ 3
byte_short n small = length-decimal-le 3 n (lit< tt) (omega (arith, small)) (omega (arith, small))

address_short : (s : List ℕ) (n : ℕ) → IsAddress s n → length s ≤ 15
address_short s n is =
    let a = decimal is.first in
    let b = decimal is.second in
    let c = decimal is.third in
    let d = decimal is.fourth in
    let e : length s ≡ length a + suc (length (b ++ 46 ∷ (c ++ 46 ∷ d))) = ap length is.written ∙ length-append a (46 ∷ (b ++ 46 ∷ (c ++ 46 ∷ d))) in
    let f : length (b ++ 46 ∷ (c ++ 46 ∷ d)) ≡ length b + suc (length (c ++ 46 ∷ d)) = length-append b (46 ∷ (c ++ 46 ∷ d)) in
    let g : length (c ++ 46 ∷ d) ≡ length c + suc (length d) = length-append c (46 ∷ d) in
    omega (arith, e, f, g, byte_short is.first is.bytes.0, byte_short is.second is.bytes.1, byte_short is.third is.bytes.2, byte_short is.fourth is.bytes.3)

pub long_address : (s : List ℕ) → 15 < length s → address_of s ≡ None
long_address s long = none_of (address_of s) (λ n is. omega (arith, long, address_short s n (address_computes.from s n is)))

-- ---- numbers, nets and ports

number_short : (low high digits : ℕ) (s : List ℕ) (n : ℕ) → 0 < digits → high < 2 ^ 16 → high < 10 ^ digits → IsNumber low high s n → length s ≤ digits
number_short low high digits s n some few small is =
    let d : length (decimal n) ≤ digits = length-decimal-le digits n some (omega (arith, few, is.most)) (omega (arith, small, is.most)) in
    omega (arith, ap length is.digits, d)

optional_short : (absent mark low high digits : ℕ) (s : List ℕ) (n : ℕ) → 0 < digits → high < 2 ^ 16 → high < 10 ^ digits → IsOptional absent mark low high s n → length s ≤ digits + 1
optional_short absent mark low high digits s n some few small (inl none) = omega (arith, ap length none.0)
optional_short absent mark low high digits s n some few small (inr there) = omega (arith, ap length there.1, number_short low high digits there.0 n some few small there.2)

net_short : (s : List ℕ) (net : ℕ × ℕ) → IsNet s net → length s ≤ 18
net_short s net is =
    let cidr = is.1 in
    omega (arith, ap length cidr.written, length-append cidr.prefix cidr.rest, address_short cidr.prefix is.0 cidr.address, optional_short 32 47 0 32 2 cidr.rest net.1 (lit< tt) (lit< tt) (lit< tt) cidr.length)

pub long_net : (s : List ℕ) → 18 < length s → net_of s ≡ None
long_net s long = none_of (net_of s) (λ n is. omega (arith, long, net_short s n (net_computes.from s n is)))

ports_short : (s : List ℕ) (ports : ℕ × ℕ) → IsPortRange s ports → length s ≤ 11
ports_short s ports is =
    omega (arith, ap length is.whole, length-append is.prefix is.rest, number_short 0 65535 5 is.prefix is.number (lit< tt) (lit< tt) (lit< tt) is.is, optional_short is.number 58 is.number 65535 5 is.rest ports.1 (lit< tt) (lit< tt) (lit< tt) is.after.1)

pub long_ports : (s : List ℕ) → 11 < length s → ports_of s ≡ None
long_ports s long = none_of (ports_of s) (λ n is. omega (arith, long, ports_short s n (ports_computes.from s n is)))

-- ---- protocols

abbrev fit : ℕ → List (List ℕ × ℕ) → Bool
fit most [] = true
fit most (entry ∷ table) = nat_le (length entry.0) most && fit most table

named_short : (most : ℕ) (table : List (List ℕ × ℕ)) → fit most table ≡ true → (s : List ℕ) (n : ℕ) → IsNamedIn table s n → length s ≤ most
named_short most [] fits s n is = absurd is
named_short most (entry ∷ table) fits s n is =
    let both = both_pass (nat_le (length entry.0) most) (fit most table) fits in
    elim is [
      | inl one ↦ omega (arith, sym (length-map s to_ascii_lowercase) ∙ ap length one.0, at_least (length entry.0) most both.0)
      | inr more ↦ named_short most table both.1 s n more
    ]

pub long_protocol : (s : List ℕ) → 7 < length s → protocol_of s ≡ None
long_protocol s long = none_of (protocol_of s) (λ n is. omega (arith, long, named_short 7 protocols refl s n (protocol_computes.from s n is)))
