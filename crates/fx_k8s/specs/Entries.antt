-- An entry of a rule's `ports`, as Kubernetes' API reference has it (`networking.k8s.io/v1` NetworkPolicyPort): a protocol, TCP
-- where none is given, and a port by its number or by its name, or a range of ports by its ends. Members that aren't named here are
-- ignored.
use Rattle.std.specs.Prelude.{ℕ, List, ◌==◌, if◌then◌else◌, Option, Some, None, option_map, option_and_then, Result, Ok, Err, codes}
use Rattle.serde_json.specs.Data.{Data}
use Rattle.serde_json.specs.Find.{as_str}
use Rattle.fx_base.specs.declared.net.PortRange.{PortRange}
use Rattle.fx_base.specs.declared.net.Proto.{Proto}
use Rattle.fx_model.specs.declared.rules.PortSpec.{PortSpec}
use Rattle.fx_model.specs.declared.rules.PortSpec.TheVariants.{Number, Named}
use Rattle.fx_fields.specs.declared.fault.ReadFault.{ReadFault}
use Rattle.fx_fields.specs.declared.fault.ReadFault.TheVariants.{BadField, BadEndPort}
use Rattle.fx_k8s.specs.declared.entries.Protocol.{Protocol}
use Rattle.fx_k8s.specs.declared.entries.Protocol.TheVariants.{Tcp, Udp, Sctp}
use Rattle.fx_k8s.specs.declared.entries.PortEntry.{PortEntry}
use Rattle.fx_fields.specs.Paths.{member_path}
use Rattle.fx_fields.specs.Fields.{◌>>=◌, Reader, field, formed, defaulted, optional, object_at}
use Rattle.fx_fields.specs.Forms.{is_port_name}
use Rattle.fx_fields.specs.Values.{whole_in, protocol_in, range}

-- ---- protocols

-- by IANA's list of protocol numbers
abbrev pub number_of : Protocol → ℕ
number_of Tcp = 6
number_of Udp = 17
number_of Sctp = 132

abbrev pub protocol_numbered : Proto → Option Protocol
protocol_numbered p =
    if p.0 == 6 then Some Tcp
    else (if p.0 == 17 then Some Udp
    else (if p.0 == 132 then Some Sctp else None))

abbrev pub protocol : Reader Protocol
protocol path d = formed path (option_and_then protocol_numbered (protocol_in d))

-- ---- ports

abbrev pub numbered : Data → Option PortSpec
numbered d = option_map (λ n. Number (range n n)) (whole_in 1 65535 d)

abbrev pub named : List ℕ → List ℕ → Result PortSpec ReadFault
named path s = if is_port_name s then Ok (Named s) else Err (BadField path)

-- A number is a JSON number, and a text is a port's name.
abbrev pub entry_port : Reader PortSpec
entry_port path d = by_text (as_str d)
  where
    by_text : Option (List ℕ) → Result PortSpec ReadFault
    by_text None = formed path (numbered d)
    by_text (Some s) = named path s

-- the ports up to this end, which isn't below the first
abbrev pub range_from : ℕ → Data → Option PortRange
range_from low d = option_map (range low) (whole_in low 65535 d)

-- an end stands beside a number alone
abbrev pub ranged : Option PortSpec → Data → Option PortSpec
ranged None d = None
ranged (Some (Number first)) d = option_map Number (range_from first.low d)
ranged (Some (Named name)) d = None

abbrev pub ended : List ℕ → Option PortSpec → Result (Option PortSpec) ReadFault
ended path None = Err (BadEndPort path)
ended path (Some ports) = Ok (Some ports)

-- the port that was read, up to the entry's end if it has one
abbrev pub entry_end : List ℕ → Option PortSpec → Data → Result (Option PortSpec) ReadFault
entry_end path port d = of_member (field (codes "endPort") d)
  where
    of_member : Option Data → Result (Option PortSpec) ReadFault
    of_member None = Ok port
    of_member (Some v) = ended path (ranged port v)

-- ---- an entry

unfoldable pub entry_fields : Reader PortEntry
entry_fields path d = do
  proto ← defaulted Tcp protocol path (codes "protocol") d
  first ← optional entry_port path (codes "port") d
  port ← entry_end (member_path path (codes "endPort")) first d
  Ok (record { protocol = proto; port = port })

unfoldable pub port_entry : Reader PortEntry
port_entry path d = object_at path d >>= entry_fields path
