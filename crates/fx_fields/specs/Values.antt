-- Numbers, protocols, addresses and nets, and ranges of ports. From Calico's resource reference (`projectcalico.org/v3`), IANA's
-- list of protocol numbers and CIDR notation (RFC 4632). A number is a JSON number that is written as an integer.
use Rattle.std.specs.Prelude.{◌≤◌, ◌-◌, ◌*◌, ◌/◌, ◌^◌, ℕ, List, Bool, true, ◌&&◌, ◌||◌, ◌==◌, nat_le, if◌then◌else◌, Option, Some, None, option_map, option_and_then, min}
use Rattle.std.specs.List.{list_any}
use Rattle.std.proofs.Common.{ap}
use Rattle.std.proofs.Math.Nat.{min-le_right, mul-div_cancel_left}
use Rattle.std.proofs.lemmas.Nat.{pow_pos}
use Rattle.serde_json.specs.Data.{Data}
use Rattle.serde_json.specs.Find.{as_str, as_number, as_u64}
use Rattle.fx_base.specs.declared.net.Ipv4.{Ipv4}
use Rattle.fx_base.specs.declared.net.Net.{Net}
use Rattle.fx_base.specs.declared.net.NetText.{NetText}
use Rattle.fx_base.specs.declared.net.NetText.TheVariants.{V4, V6}
use Rattle.fx_base.specs.declared.net.PortRange.{PortRange}
use Rattle.fx_base.specs.declared.net.Proto.{Proto}
use Rattle.fx_base.specs.Addresses.{net_address}
use Rattle.fx_base.specs.TextValues.{address_of, net_of, protocol_of}
use Rattle.fx_fields.specs.Fields.{Reader, formed}
use Rattle.fx_fields.specs.Forms.{passing}

-- ---- numbers

-- a whole number of a range
abbrev pub whole_in : ℕ → ℕ → Data → Option ℕ
whole_in low high d = passing (λ n. nat_le low n && nat_le n high) (option_and_then as_u64 (as_number d))

abbrev pub whole : ℕ → ℕ → Reader ℕ
whole low high path d = formed path (whole_in low high d)

-- a version of IP
abbrev pub version : Reader ℕ
version path d = formed path (passing (λ n. (n == 4) || (n == 6)) (whole_in 0 255 d))

-- ---- protocols

-- a text is a protocol's name, and a number its number
abbrev pub protocol_in : Data → Option Proto
protocol_in d = option_map (λ n. record { 0 = n }) (by_text (as_str d))
  where
    by_text : Option (List ℕ) → Option ℕ
    by_text None = whole_in 1 255 d
    by_text (Some s) = protocol_of s

abbrev pub protocol : Reader Proto
protocol path d = formed path (protocol_in d)

abbrev pub tcp : Proto
tcp = record { 0 = 6 }

-- ---- addresses and nets

abbrev pub address : Reader Ipv4
address path d = formed path (option_map (λ n. record { 0 = n }) (option_and_then address_of (as_str d)))

-- the net of an address and a length, which is 32 at most; the address's other bits are cleared
abbrev pub cidr : ℕ → ℕ → Net
cidr address length = of (min length 32) (min-le_right length 32)
  where
    of : (l : ℕ) → l ≤ 32 → Net
    of l short = record {
      addr = record { 0 = net_address address l };
      len = l;
      short = short;
      no_host_bits = ap (λ n. 2 ^ (32 - l) * n) (mul-div_cancel_left (address / 2 ^ (32 - l)) (pow_pos (32 - l)));
    }

-- a text with `:` is a net of IPv6, and isn't read further
abbrev pub has_colon : List ℕ → Bool
has_colon s = list_any (λ b. b == 58) s

abbrev pub net_in : List ℕ → Option NetText
net_in s = if has_colon s then Some V6 else option_map (λ n. V4 (cidr n.0 n.1)) (net_of s)

abbrev pub net : Reader NetText
net path d = formed path (option_and_then net_in (as_str d))

-- one address, if it is of IPv4
abbrev pub is_host : NetText → Bool
is_host V6 = true
is_host (V4 n) = n.len == 32

abbrev pub host_net : Reader NetText
host_net path d = formed path (passing is_host (option_and_then net_in (as_str d)))

-- ---- ranges of ports

-- the ports from one to another, which is the upper end at least
abbrev pub range : ℕ → ℕ → PortRange
range low high = record { low = min low high; high = high; ascending = min-le_right low high }
