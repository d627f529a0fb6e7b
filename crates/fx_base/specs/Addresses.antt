-- Texts of IPv4 addresses, RFC 791, and of nets in CIDR notation, RFC 4632. 46 is `.`, 47 is `/` and 58 is `:`.
use Rattle.std.specs.Prelude.{◌≡◌, ◌<◌, ◌+◌, ◌-◌, ◌*◌, ◌/◌, ◌^◌, ℕ, zero, suc, Bool, true, false, List, [], ◌∷◌, ◌++◌, Contains}
use Rattle.std.specs.Fmt.{decimal}
use Rattle.fx_base.specs.Forms.{IsOptional, NumberThen, Means}
use Rattle.fx_base.specs.declared.net.NetText.{NetText}
use Rattle.fx_base.specs.declared.net.NetText.TheVariants.{V4, V6}

-- four bytes in decimal digits, with dots between them, and the number of which the first is the highest byte
pub record IsAddress (text : List ℕ) (value : ℕ) : Type 0 where
  pub first : ℕ
  pub second : ℕ
  pub third : ℕ
  pub fourth : ℕ
  pub bytes : (first < 256) × (second < 256) × (third < 256) × (fourth < 256)
  pub written : text ≡ decimal first ++ 46 ∷ (decimal second ++ 46 ∷ (decimal third ++ 46 ∷ decimal fourth))
  pub spells : value ≡ ((first * 256 + second) * 256 + third) * 256 + fourth

-- an address and its length in bits, which is 32 where none is written
pub record IsCidr (text : List ℕ) (value : ℕ × ℕ) : Type 0 where
  pub prefix : List ℕ
  pub rest : List ℕ
  pub written : text ≡ prefix ++ rest
  pub address : IsAddress prefix value.0
  pub length : IsOptional 32 47 0 32 rest value.1

-- the address with its bits behind the first ones cleared
abbrev pub net_address : ℕ → ℕ → ℕ
net_address address length = 2 ^ (32 - length) * (address / 2 ^ (32 - length))

-- the address has the net's first bits
abbrev pub IsInNet : ℕ → ℕ → ℕ → Type 0
IsInNet net length address = address / 2 ^ (32 - length) ≡ net / 2 ^ (32 - length)

-- the text of an IPv4 net: its address without host bits and its length
abbrev pub IsNet : List ℕ → ℕ × ℕ → Type 0
IsNet text net = (given : ℕ) × IsCidr text (given, net.1) × (net.0 ≡ net_address given net.1)

-- what a net's text is read as: of IPv6 where it holds `:`, and else an IPv4 net
abbrev pub IsReadAs : List ℕ → NetText → Type 0
IsReadAs text V6 = Contains text 58
IsReadAs text (V4 net) = (¬ Contains text 58) × Means IsNet text (net.addr.0, net.len)

-- ---- how an address is read byte by byte
-- what stands behind an address: maybe a length, or nothing
abbrev pub Behind : Bool → List ℕ → ℕ → Type 0
Behind true rest length = IsOptional 32 47 0 32 rest length
Behind false rest length = (rest ≡ []) × (length ≡ 32)

-- so many bytes after one, behind those of a number, and then what stands behind an address
abbrev pub Dotted : Bool → ℕ → ℕ → List ℕ → ℕ × ℕ → Type 0
Dotted takes high zero text value = NumberThen 0 255 (λ byte rest v. (v.0 ≡ high * 256 + byte) × Behind takes rest v.1) text value
Dotted takes high (suc n) text value = NumberThen 0 255 (λ byte rest v. (more : List ℕ) × (rest ≡ 46 ∷ more) × Dotted takes (high * 256 + byte) n more v) text value
