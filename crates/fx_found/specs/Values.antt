-- What single words of a row are read as: numbers, protocols, nets, ports and marks. These readings are lax, since what is read
-- is printed again and compared with the row (`RuleRows`, `MemberRows`).
use Rattle.std.specs.Prelude.{ℕ, ◌+◌, ◌*◌, ◌^◌, List, [], ◌∷◌, Bool, ◌&&◌, nat_lt, nat_le, if◌then◌else◌, length, codes, min, Option, Some, None, option_map, option_and_then}
use Rattle.std.specs.Char.{digit_value}
use Rattle.std.specs.Str.{bytes_eq}
use Rattle.std.proofs.Math.Nat.{min-le_right}
use Rattle.fx_base.specs.declared.net.Ipv4.{Ipv4}
use Rattle.fx_base.specs.declared.net.Net.{Net}
use Rattle.fx_base.specs.declared.net.PortRange.{PortRange}
use Rattle.fx_base.specs.declared.net.Proto.{Proto}
use Rattle.fx_base.specs.Nets.{around}
use Rattle.fx_base.specs.TextValues.{address_of, ports_of}
use Rattle.fx_model.specs.declared.rules.Icmp.{Icmp}
use Rattle.fx_found.specs.Pieces.{piece, behind, pieces}

-- a value that passes a test
abbrev pub kept : {A : Type 0} → (A → Bool) → Option A → Option A
kept test None = None
kept test (Some x) = if test x then Some x else None

-- a text that isn't longer than those of its form
abbrev pub of_length : {A : Type 0} → ℕ → (List ℕ → Option A) → List ℕ → Option A
of_length most read text = if nat_le (length text) most then read text else None

-- ---- numbers

-- the number with one digit more, if 32 bits hold it
abbrev pub with_digit : ℕ → ℕ → ℕ → Option ℕ
with_digit base n c =
    if nat_lt (digit_value c) base && nat_lt (n * base + digit_value c) (2 ^ 32) then Some (n * base + digit_value c) else None

abbrev pub number_after : ℕ → ℕ → List ℕ → Option ℕ
number_after base n [] = Some n
number_after base n (c ∷ cs) = option_and_then (λ m. number_after base m cs) (with_digit base n c)

-- the number that the digits write
abbrev pub number_in : ℕ → List ℕ → Option ℕ
number_in base text = number_after base 0 text

abbrev pub up_to : ℕ → List ℕ → Option ℕ
up_to most text = kept (λ n. nat_le n most) (number_in 10 text)

-- a mark's value and the bits of it that count, each in hexadecimal behind `0x`
abbrev pub hex_in : List ℕ → Option ℕ
hex_in [] = None
hex_in (c ∷ []) = None
hex_in (c ∷ d ∷ cs) = number_in 16 cs

abbrev pub mark_in : List ℕ → Option (ℕ × ℕ)
mark_in text = option_and_then (λ value. option_map (λ mask. (value, mask)) (hex_in (behind 47 text))) (hex_in (piece 47 text))

-- ---- protocols and ICMP

abbrev pub number_of_protocol : List ℕ → Option ℕ
number_of_protocol text =
    if bytes_eq text (codes "icmp") then Some 1
    else (if bytes_eq text (codes "tcp") then Some 6
    else (if bytes_eq text (codes "udp") then Some 17
    else (if bytes_eq text (codes "sctp") then Some 132
    else up_to 255 text)))

abbrev pub protocol_in : List ℕ → Option Proto
protocol_in text = option_map (λ n. record { 0 = n }) (number_of_protocol text)

-- a type, and maybe a code behind it
abbrev pub icmp_with : ℕ → List ℕ → Option Icmp
icmp_with kind [] = Some (record { kind = kind; code = None })
icmp_with kind (c ∷ cs) = option_map (λ code. record { kind = kind; code = Some code }) (up_to 255 (c ∷ cs))

abbrev pub icmp_in : List ℕ → Option Icmp
icmp_in text = option_and_then (λ kind. icmp_with kind (behind 47 text)) (up_to 255 (piece 47 text))

-- ---- addresses, nets and ports

abbrev pub address_in : List ℕ → Option Ipv4
address_in text = option_map (λ n. record { 0 = n }) (of_length 15 address_of text)

-- the net of an address and a length, which is 32 at most; the address's other bits are cleared
abbrev pub cidr : Ipv4 → ℕ → Net
cidr address len = around address.0 (min len 32) (min-le_right len 32)

abbrev pub net_in : List ℕ → Option Net
net_in text = option_and_then (λ address. option_map (cidr address) (up_to 32 (behind 47 text))) (address_in (piece 47 text))

-- the ports from one to another, which is the upper end at least
abbrev pub range : ℕ → ℕ → PortRange
range low high = record { low = min low high; high = high; ascending = min-le_right low high }

abbrev pub range_in : List ℕ → Option PortRange
range_in text = option_map (λ ends. range ends.0 ends.1) (of_length 11 ports_of text)

abbrev pub all_ranges : List (List ℕ) → Option (List PortRange)
all_ranges [] = Some []
all_ranges (p ∷ ps) = option_and_then (λ first. option_map (λ later. first ∷ later) (all_ranges ps)) (range_in p)

-- ranges with commas between them
abbrev pub ranges_in : List ℕ → Option (List PortRange)
ranges_in text = all_ranges (pieces 44 text)
