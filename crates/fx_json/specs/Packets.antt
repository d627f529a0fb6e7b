-- The packet that a line asks about, member by member in the order in which the first fault is told. Interfaces are named as in
-- Calico's resource reference, protocols as its policies name them or by their numbers in IANA's list, ICMP's types and codes by their
-- numbers (RFC 792), and the states of connections as in iptables-extensions(8). Members that aren't named here are ignored.
use Rattle.std.specs.Prelude.{ℕ, List, if◌then◌else◌, Option, Some, None, option_and_then, Result, Ok, codes}
use Rattle.std.specs.Str.{bytes_eq}
use Rattle.serde_json.specs.Data.{Data}
use Rattle.serde_json.specs.Find.{as_str}
use Rattle.fx_model.specs.declared.packet.State.{State}
use Rattle.fx_model.specs.declared.packet.State.TheVariants.{New, Established, Related, Invalid}
use Rattle.fx_model.specs.declared.packet.Packet.{Packet}
use Rattle.fx_fields.specs.declared.fault.ReadFault.{ReadFault}
use Rattle.fx_fields.specs.declared.texts.TextForm.TheVariants.{Interface}
use Rattle.fx_json.specs.declared.packets.ReadHeader.{ReadHeader}
use Rattle.fx_json.specs.declared.packets.ReadLayer.{ReadLayer}
use Rattle.fx_fields.specs.Fields.{◌>>=◌, Reader, formed, required, defaulted}
use Rattle.fx_fields.specs.Forms.{text}
use Rattle.fx_fields.specs.Values.{whole, address, protocol}

abbrev pub state_named : List ℕ → Option State
state_named s =
    if bytes_eq s (codes "NEW") then Some New
    else (if bytes_eq s (codes "ESTABLISHED") then Some Established
    else (if bytes_eq s (codes "RELATED") then Some Related
    else (if bytes_eq s (codes "INVALID") then Some Invalid else None)))

abbrev pub state : Reader State
state path d = formed path (option_and_then state_named (as_str d))

-- the header of IPv4
unfoldable pub header : Reader ReadHeader
header path d = do
  src ← required address path (codes "src") d
  dst ← required address path (codes "dst") d
  proto ← required protocol path (codes "proto") d
  Ok (record { src = src; dst = dst; proto = proto })

-- the header behind it
unfoldable pub layer : Reader ReadLayer
layer path d = do
  sport ← defaulted 0 (whole 0 65535) path (codes "sport") d
  dport ← defaulted 0 (whole 0 65535) path (codes "dport") d
  icmp_kind ← defaulted 0 (whole 0 255) path (codes "icmpType") d
  icmp_code ← defaulted 0 (whole 0 255) path (codes "icmpCode") d
  Ok (record { sport = sport; dport = dport; icmp_kind = icmp_kind; icmp_code = icmp_code })

-- what it holds beside the interfaces between which it goes
unfoldable pub packet_between : List ℕ → List ℕ → Reader Packet
packet_between iface_in iface_out path d = do
  ip ← header path d
  behind ← layer path d
  connection ← defaulted New state path (codes "state") d
  Ok (record {
    iface_in = iface_in;
    iface_out = iface_out;
    src = ip.src;
    dst = ip.dst;
    proto = ip.proto;
    sport = behind.sport;
    dport = behind.dport;
    icmp_kind = behind.icmp_kind;
    icmp_code = behind.icmp_code;
    state = connection;
  })

unfoldable pub packet_fields : Reader Packet
packet_fields path d = do
  iface_in ← required (text Interface) path (codes "in") d
  iface_out ← required (text Interface) path (codes "out") d
  packet_between iface_in iface_out path d

-- the packet, or its first fault
unfoldable pub packet_of : Data → Result Packet ReadFault
packet_of d = packet_fields (codes "packet") d
