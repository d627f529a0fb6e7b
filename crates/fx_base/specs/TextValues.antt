-- What the texts of a form are read as, computed from the text. The forms themselves are relations: see `Forms`.
use Rattle.std.specs.Prelude.{◌≡◌, ℕ, zero, suc, Bool, true, false, ◌==◌, ◌&&◌, nat_eq, nat_le, if◌then◌else◌, List, [], ◌∷◌, take, drop, Option, Some, None, option_and_then, ◌+◌, ◌*◌}
use Rattle.std.specs.Fmt.{decimal}
use Rattle.std.specs.List.{prefix_len}
use Rattle.std.specs.Str.{str_to_ascii_lowercase}
use Rattle.std.specs.Str.Parse.{digits_value}
use Rattle.std.specs.Cmp.Lexicographic.{pointwise}
use Rattle.fx_base.specs.Addresses.{net_address}
use Rattle.fx_base.specs.declared.net.NetText.{NetText}
use Rattle.fx_base.specs.declared.net.NetText.TheVariants.{V4, V6}
use Rattle.fx_base.specs.Protocols.{protocols}

abbrev pub is_digit : ℕ → Bool
is_digit c = nat_le 48 c && nat_le c 57

-- a number of a range, where the text is as the number is written
abbrev pub number_of : ℕ → ℕ → List ℕ → Option ℕ
number_of low high text =
    let value = digits_value 10 text in
    if pointwise nat_eq text (decimal value) && (nat_le low value && nat_le value high) then Some value else None

abbrev pub optional_of : ℕ → ℕ → ℕ → ℕ → List ℕ → Option ℕ
optional_of absent mark low high [] = Some absent
optional_of absent mark low high (c ∷ rest) = if c == mark then number_of low high rest else None

-- the digits at the beginning are the number
abbrev pub number_then_of : {A : Type 0} → ℕ → ℕ → (ℕ → List ℕ → Option A) → List ℕ → Option A
number_then_of low high after text =
    let n = prefix_len is_digit text in
    option_and_then (λ number. after number (drop n text)) (number_of low high (take n text))

-- ---- ports, the lower end and the upper
abbrev pub ports_of : List ℕ → Option (ℕ × ℕ)
ports_of = number_then_of 0 65535 (λ low rest. option_and_then (λ high. Some (low, high)) (optional_of low 58 low 65535 rest))

-- ---- addresses and nets
abbrev pub behind_of : Bool → List ℕ → Option ℕ
behind_of true rest = optional_of 32 47 0 32 rest
behind_of false [] = Some 32
behind_of false (c ∷ rest) = None

abbrev pub dot_of : {A : Type 0} → (List ℕ → Option A) → List ℕ → Option A
dot_of more [] = None
dot_of more (c ∷ rest) = if c == 46 then more rest else None

-- so many bytes after one, behind those of a number, and then what stands behind an address
abbrev pub dotted_of : Bool → ℕ → ℕ → List ℕ → Option (ℕ × ℕ)
dotted_of takes high zero = number_then_of 0 255 (λ byte rest. option_and_then (λ length. Some (high * 256 + byte, length)) (behind_of takes rest))
dotted_of takes high (suc n) = number_then_of 0 255 (λ byte rest. dot_of (dotted_of takes (high * 256 + byte) n) rest)

abbrev pub address_of : List ℕ → Option ℕ
address_of text = option_and_then (λ v. Some v.0) (dotted_of false 0 3 text)

-- an IPv4 net's address without its host bits, and its length
abbrev pub net_of : List ℕ → Option (ℕ × ℕ)
net_of text = option_and_then (λ v. Some (net_address v.0 v.1, v.1)) (dotted_of true 0 3 text)

-- an answer of an IPv4 net is the computed one
abbrev pub IsNetValue : List ℕ → NetText → Type 0
IsNetValue text V6 = Unit {0}
IsNetValue text (V4 net) = net_of text ≡ Some (net.addr.0, net.len)

-- ---- protocols
abbrev pub named_of : List (List ℕ × ℕ) → List ℕ → Option ℕ
named_of [] text = None
named_of (entry ∷ table) text = if pointwise nat_eq (str_to_ascii_lowercase text) entry.0 then Some entry.1 else named_of table text

abbrev pub protocol_of : List ℕ → Option ℕ
protocol_of = named_of protocols
