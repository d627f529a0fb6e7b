-- Members of IP sets and the sets' types, as ipset(8) prints them.
use Rattle.std.specs.Prelude.{ℕ, ◌/◌, ◌%◌, ◌^◌, ◌==◌, if◌then◌else◌, List, ◌++◌, codes, decimal}
use Rattle.fx_base.specs.declared.net.Ipv4.{Ipv4}
use Rattle.fx_base.specs.declared.net.Net.{Net}
use Rattle.fx_base.specs.declared.net.Proto.{Proto}
use Rattle.fx_base.specs.declared.set_name.SetKind.{SetKind}
use Rattle.fx_base.specs.declared.set_name.SetKind.TheVariants.{Nets, Ports}
use Rattle.fx_base.specs.SetName.{kind_of}
use Rattle.fx_model.specs.declared.member.Member.{Member}
use Rattle.fx_model.specs.declared.member.Member.TheVariants as member

-- the four bytes of an address in decimal, the highest first
abbrev pub address_text : Ipv4 → List ℕ
address_text a =
    decimal (a.0 / 2 ^ 24) ++ (codes "." ++ (decimal (a.0 / 2 ^ 16 % 256) ++ (codes "." ++ (decimal (a.0 / 2 ^ 8 % 256) ++ (codes "." ++ decimal (a.0 % 256))))))

-- a protocol's name, or its number
abbrev pub protocol_text : Proto → List ℕ
protocol_text p =
    if p.0 == 1 then codes "icmp"
    else (if p.0 == 6 then codes "tcp"
    else (if p.0 == 17 then codes "udp"
    else (if p.0 == 132 then codes "sctp"
    else decimal p.0)))

-- a net with its length
abbrev pub net_text : Net → List ℕ
net_text n = address_text n.addr ++ (codes "/" ++ decimal n.len)

abbrev pub member_text : Member → List ℕ
member_text (member.Net n) = net_text n
member_text (member.PortAt addr proto number) =
    address_text addr ++ (codes "," ++ (protocol_text proto ++ (codes ":" ++ decimal number)))

abbrev pub kind_text : SetKind → List ℕ
kind_text Nets = codes "hash:net"
kind_text Ports = codes "hash:ip,port"

-- the type of the set of this name
abbrev pub type_text : List ℕ → List ℕ
type_text name = kind_text (kind_of name)
