-- What a rule can ask of a packet. From Calico's resource reference (`projectcalico.org/v3`), iptables(8) and
-- iptables-extensions(8): protocols, nets in CIDR form (RFC 4632), ports and messages of ICMP (RFC 792).
use Rattle.std.specs.Prelude.{ℕ, ◌-◌, ◌/◌, ◌^◌, Bool, true, not, ◌&&◌, ◌||◌, nat_eq, nat_le, List, [], ◌∷◌, Option, Some, None}
use Rattle.std.specs.List.{list_any}
use Rattle.fx_base.specs.declared.net.Net.{Net}
use Rattle.fx_base.specs.declared.net.PortRange.{PortRange}
use Rattle.fx_base.specs.declared.net.Proto.{Proto}
use Rattle.fx_model.specs.declared.rules.Icmp.{Icmp}
use Rattle.fx_model.specs.declared.packet.Packet.{Packet}
use Rattle.fx_model.specs.declared.chain.End.{End}
use Rattle.fx_model.specs.declared.chain.End.TheVariants.{Source, Dest}

-- ---- the ends of a packet's way

abbrev pub address_at : End → Packet → ℕ
address_at Source a = a.src.0
address_at Dest a = a.dst.0

abbrev pub port_at : End → Packet → ℕ
port_at Source a = a.sport
port_at Dest a = a.dport

-- ---- protocols, by IANA's numbers

abbrev pub icmp_number : ℕ
icmp_number = 1

-- the protocols whose ports rules can ask for: TCP, UDP and SCTP
abbrev pub has_ports : ℕ → Bool
has_ports proto = nat_eq proto 6 || (nat_eq proto 17 || nat_eq proto 132)

-- the protocol is the one that is given, if one is
abbrev pub proto_is : Option Proto → ℕ → Bool
proto_is None p = true
proto_is (Some q) p = nat_eq p q.0

abbrev pub proto_is_not : Option Proto → ℕ → Bool
proto_is_not None p = true
proto_is_not (Some q) p = not (nat_eq p q.0)

-- ---- nets

-- the address and the net agree in the net's first bits
abbrev pub in_net : Net → ℕ → Bool
in_net net x = nat_eq (x / 2 ^ (32 - net.len)) (net.addr.0 / 2 ^ (32 - net.len))

abbrev pub lies_in : List Net → ℕ → Bool
lies_in nets x = list_any (λ n. in_net n x) nets

-- some net contains the address, if there are nets
abbrev pub lies_in_given : List Net → ℕ → Bool
lies_in_given [] x = true
lies_in_given (n ∷ nets) x = lies_in (n ∷ nets) x

-- ---- ports

abbrev pub in_range : PortRange → ℕ → Bool
in_range r y = nat_le r.low y && nat_le y r.high

abbrev pub in_ranges : List PortRange → ℕ → Bool
in_ranges rs y = list_any (λ r. in_range r y) rs

-- a range holds for a port of a protocol that has ports
abbrev pub holds_port : PortRange → ℕ → ℕ → Bool
holds_port r proto y = has_ports proto && in_range r y

-- ---- ICMP

abbrev pub code_is : Option ℕ → ℕ → Bool
code_is None code = true
code_is (Some c) code = nat_eq code c

-- a message of this type, and of this code if one is given
abbrev pub is_message : Icmp → Packet → Bool
is_message m a = nat_eq a.icmp_kind m.kind && code_is m.code a.icmp_code

abbrev pub is_icmp : Packet → Bool
is_icmp a = nat_eq a.proto.0 icmp_number

abbrev pub icmp_is : Option Icmp → Packet → Bool
icmp_is None a = true
icmp_is (Some m) a = is_icmp a && is_message m a

abbrev pub icmp_is_not : Option Icmp → Packet → Bool
icmp_is_not None a = true
icmp_is_not (Some m) a = not (is_icmp a && is_message m a)
