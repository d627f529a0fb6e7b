-- A side of a rule, field by field in the order of Calico's resource reference (`projectcalico.org/v3`, EntityRule). Members that aren't
-- named here are ignored.
use Rattle.std.specs.Prelude.{ℕ, List, if◌then◌else◌, Option, Result, Ok, Err, codes}
use Rattle.serde_json.specs.Data.{Data, Items, no_items, item}
use Rattle.fx_base.specs.declared.net.Proto.{Proto}
use Rattle.fx_model.specs.declared.rules.PortSpec.{PortSpec}
use Rattle.fx_model.specs.Formed.{has_port_protocol}
use Rattle.fx_fields.specs.declared.fault.ReadFault.{ReadFault}
use Rattle.fx_fields.specs.declared.fault.ReadFault.TheVariants.{PortsWithoutProtocol}
use Rattle.fx_fields.specs.declared.rule_form.RuleForm.{RuleForm}
use Rattle.fx_fields.specs.declared.rule_form.Services.{Services}
use Rattle.fx_fields.specs.declared.rule_form.Services.TheVariants.{Refused, PassedOver}
use Rattle.fx_json.specs.declared.sides.ReadSide.{ReadSide}
use Rattle.fx_json.specs.declared.sides.ReadPorts.{ReadPorts}
use Rattle.fx_fields.specs.Paths.{member_path}
use Rattle.fx_fields.specs.Fields.{◌>>=◌, Reader, optional, unread, list_at, items_from}
use Rattle.fx_fields.specs.Nets.{nets_of}
use Rattle.fx_fields.specs.SideSelectors.{side_selectors}
use Rattle.fx_json.specs.Ports.{port}

-- ---- ports

-- a protocol with ports
abbrev pub with_ports : Option Proto → List ℕ → Result (Unit {0}) ReadFault
with_ports protocol path = if has_port_protocol protocol then Ok tt else Err (PortsWithoutProtocol path)

-- a list of ports that isn't empty asks for such a protocol
abbrev pub may_list : Option Proto → List ℕ → Items → Result (Unit {0}) ReadFault
may_list protocol path no_items = Ok tt
may_list protocol path (item d ds) = with_ports protocol path

abbrev pub ports_in : Option Proto → List ℕ → Items → Result (List PortSpec) ReadFault
ports_in protocol path values = may_list protocol path values >>= λ _. items_from port path 0 values

unfoldable pub ports_at : Option Proto → List ℕ → List ℕ → Data → Result (List PortSpec) ReadFault
ports_at protocol path key d = list_at path key d >>= ports_in protocol (member_path path key)

-- ---- a side

unfoldable pub ports_of : Option Proto → Reader ReadPorts
ports_of protocol path d = do
  ports ← ports_at protocol path (codes "ports") d
  not_ports ← ports_at protocol path (codes "notPorts") d
  Ok (record { ports = ports; not_ports = not_ports })

-- ---- services

unfoldable pub no_services : Reader (Unit {0})
no_services path d = do
  _ ← optional unread path (codes "services") d
  Ok tt

-- they are refused, or another reader reads them
abbrev pub services_at : Services → Reader (Unit {0})
services_at Refused path d = no_services path d
services_at PassedOver path d = Ok tt

-- A side of a rule of this protocol, by how the rule is read, and whether no packet of IPv4 meets it.
unfoldable pub side : RuleForm → Option Proto → Reader ReadSide
side form protocol path d = do
  nets ← nets_of path d
  chosen ← side_selectors form.place path d
  ports ← ports_of protocol path d
  _ ← services_at form.services path d
  Ok (record {
    side = record {
      nets = nets.nets;
      not_nets = nets.not_nets;
      selector = chosen.selector;
      not_selector = chosen.not_selector;
      ports = ports.ports;
      not_ports = ports.not_ports;
    };
    never = nets.never;
  })
