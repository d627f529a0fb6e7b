-- A HostEndpoint field by field in the order of Calico's resource reference (`projectcalico.org/v3`), the failsafe
-- ports of a line, and the packet of a process that a line asks about. Members that aren't named here are ignored.
use Rattle.std.specs.Prelude.{ℕ, List, [], Bool, true, false, ◌&&◌, Option, Some, None, Result, Ok, codes}
use Rattle.std.specs.List.{filter_map}
use Rattle.std.specs.Str.{bytes_eq}
use Rattle.serde_json.specs.Data.{Data}
use Rattle.fx_selector.specs.Truth.{LabelMap}
use Rattle.fx_model.specs.declared.ids.ItemKey.TheVariants as item_key
use Rattle.fx_model.specs.declared.ids.Key.{Key}
use Rattle.fx_model.specs.declared.ids.Key.TheVariants as key
use Rattle.fx_model.specs.declared.packet.Packet.{Packet}
use Rattle.fx_model.specs.declared.resources.Endpoint.{Endpoint}
use Rattle.fx_model.specs.declared.resources.Item.TheVariants as item
use Rattle.fx_model.specs.declared.resources.Update.{Update}
use Rattle.fx_model.specs.declared.resources.Update.TheVariants as update
use Rattle.fx_fields.specs.declared.fault.ReadFault.{ReadFault}
use Rattle.fx_fields.specs.declared.texts.TextForm.TheVariants.{Name, Interface}
use Rattle.fx_fields.specs.Fields.{◌>>=◌, Reader, required, object_at, section, items}
use Rattle.fx_fields.specs.Forms.{text}
use Rattle.fx_fields.specs.Kinds.{text_at}
use Rattle.fx_fields.specs.Metadata.{global_metadata_in}
use Rattle.fx_fields.specs.Names.{name_in}
use Rattle.fx_fields.specs.Values.{whole}
use Rattle.fx_json.specs.Endpoints.{endpoint_port}
use Rattle.fx_json.specs.Packets.{packet_between}
use Rattle.fx_json.specs.Ports.{port_protocol}
use Rattle.fx_hostep.specs.declared.failsafe.Failsafe.{Failsafe}
use Rattle.fx_hostep.specs.declared.failsafe.FailsafePort.{FailsafePort}
use Rattle.fx_hostep.specs.declared.packet.HostPacket.{HostPacket}
use Rattle.fx_hostep.specs.declared.reading.HostPlace.{HostPlace}
use Rattle.fx_hostep.specs.declared.reading.HostHoldings.{HostHoldings}
use Rattle.fx_hostep.specs.HostForms.{host_interface, host_address, of_ipv4, direction}

-- ---- the kind

-- the text is there, and is this one
abbrev pub is_named : List ℕ → Option (List ℕ) → Bool
is_named name None = false
is_named name (Some s) = bytes_eq s name

abbrev pub is_host_kind : Data → Bool
is_host_kind d =
    is_named (codes "projectcalico.org/v3") (text_at (codes "apiVersion") d)
    && is_named (codes "HostEndpoint") (text_at (codes "kind") d)

-- ---- host endpoints

-- one of the node itself stands in no namespace
abbrev pub host_key : List ℕ → Key
host_key name = key.Item (item_key.Endpoint [] name)

-- where a host endpoint stands
unfoldable pub host_place : Reader HostPlace
host_place path spec = do
  node ← required (text Name) path (codes "node") spec
  iface ← required host_interface path (codes "interfaceName") spec
  Ok (record { node = node; iface = iface })

-- the addresses of IPv4, the profiles and the named ports
unfoldable pub host_holdings : Reader HostHoldings
host_holdings path spec = do
  hosts ← items host_address path (codes "expectedIPs") spec
  profiles ← items (text Name) path (codes "profiles") spec
  ports ← items endpoint_port path (codes "ports") spec
  Ok (record { addresses = filter_map of_ipv4 hosts; profiles = profiles; ports = ports })

-- the endpoint of these labels that `spec` holds
unfoldable pub host_of : LabelMap → Reader Endpoint
host_of labels path spec = do
  place ← host_place path spec
  held ← host_holdings path spec
  Ok (record {
    node = place.node;
    iface = place.iface;
    labels = labels;
    addresses = held.addresses;
    profiles = held.profiles;
    ports = held.ports;
  })

unfoldable pub host_in : LabelMap → Data → Result Endpoint ReadFault
host_in labels d = do
  spec ← section (codes "spec") (codes "spec") d
  host_of labels (codes "spec") spec

-- Calico sets no labels of a host endpoint
unfoldable pub host_put : Data → Result Update ReadFault
host_put d = do
  about ← global_metadata_in d
  endpoint ← host_in about.labels d
  Ok (update.Put (host_key about.name) (item.Endpoint endpoint))

unfoldable pub host_delete : Data → Result Update ReadFault
host_delete d = do
  name ← name_in d
  Ok (update.Delete (host_key name))

-- ---- failsafe ports

unfoldable pub failsafe_fields : Reader FailsafePort
failsafe_fields path d = do
  proto ← required port_protocol path (codes "protocol") d
  number ← required (whole 1 65535) path (codes "port") d
  Ok (record { proto = proto; number = number })

abbrev pub failsafe_port : Reader FailsafePort
failsafe_port path d = object_at path d >>= failsafe_fields path

unfoldable pub failsafe_at : Reader Failsafe
failsafe_at path d = do
  inbound ← items failsafe_port path (codes "inbound") d
  outbound ← items failsafe_port path (codes "outbound") d
  Ok (record { inbound = inbound; outbound = outbound })

-- the failsafe ports, or their first fault
unfoldable pub failsafe_of : Data → Result Failsafe ReadFault
failsafe_of d = failsafe_at (codes "failsafe") d

-- ---- packets

-- a packet from or to a process has no interface on that end of its way
abbrev pub packet_at : Bool → List ℕ → Reader Packet
packet_at true iface path d = packet_between iface [] path d
packet_at false iface path d = packet_between [] iface path d

unfoldable pub host_packet_at : Reader HostPacket
host_packet_at path d = do
  inbound ← required direction path (codes "direction") d
  iface ← required (text Interface) path (codes "interface") d
  packet ← packet_at inbound iface path d
  Ok (record { inbound = inbound; iface = iface; packet = packet })

-- the packet, or its first fault
unfoldable pub host_packet_of : Data → Result HostPacket ReadFault
host_packet_of d = host_packet_at (codes "hostPacket") d
