-- The ports of a rule, and the protocols that have ports. From Calico's resource reference (`projectcalico.org/v3`) and IANA's list of
-- protocol numbers.
use Rattle.std.specs.Prelude.{ℕ, List, if◌then◌else◌, Option, Some, None, option_map, Result, Ok, Err}
use Rattle.serde_json.specs.Find.{as_str}
use Rattle.fx_base.specs.declared.net.Proto.{Proto}
use Rattle.fx_base.specs.TextValues.{ports_of}
use Rattle.fx_model.specs.declared.rules.PortSpec.{PortSpec}
use Rattle.fx_model.specs.declared.rules.PortSpec.TheVariants.{Number, Named}
use Rattle.fx_model.specs.Criteria.{has_ports}
use Rattle.fx_fields.specs.declared.fault.ReadFault.{ReadFault}
use Rattle.fx_fields.specs.declared.fault.ReadFault.TheVariants.{BadField}
use Rattle.fx_fields.specs.Fields.{Reader, formed}
use Rattle.fx_fields.specs.Forms.{passing, is_port_name}
use Rattle.fx_fields.specs.Values.{whole_in, protocol_in, range}

-- a protocol whose ports have names: TCP, UDP or SCTP
abbrev pub port_protocol : Reader Proto
port_protocol path d = formed path (passing (λ p. has_ports p.0) (protocol_in d))

-- a text that is no number and no range
abbrev pub named_port : List ℕ → List ℕ → Result PortSpec ReadFault
named_port path s = if is_port_name s then Ok (Named s) else Err (BadField path)

abbrev pub port_of_text : List ℕ → List ℕ → Option (ℕ × ℕ) → Result PortSpec ReadFault
port_of_text path s (Some ends) = Ok (Number (range ends.0 ends.1))
port_of_text path s None = named_port path s

-- A port of a rule: a number, a text of one or of a range, or the name of a port.
abbrev pub port : Reader PortSpec
port path d = by_text (as_str d)
  where
    by_text : Option (List ℕ) → Result PortSpec ReadFault
    by_text None = formed path (option_map (λ n. Number (range n n)) (whole_in 0 65535 d))
    by_text (Some s) = port_of_text path s (ports_of s)
