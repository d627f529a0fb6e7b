-- Each host endpoint that is read may be taken in, each failsafe port is of a protocol that has ports, and each packet that is read is one of a
-- process.
use Rattle.std.proofs.Common.{◌≡◌, ℕ, List, [], length, Bool, true, false, nat_eq, nat_le, Option, Some, None, Result, Ok, Err, IfOk, refl}
use Rattle.std.specs.Prelude.{if◌then◌else◌, codes}
use Rattle.std.specs.List.{list_all, starts_with}
use Rattle.serde_json.specs.Data.{Data}
use Rattle.serde_json.specs.Find.{as_str}
use Rattle.fx_base.specs.declared.net.Proto.{Proto}
use Rattle.fx_selector.specs.Truth.{LabelMap}
use Rattle.fx_model.specs.declared.packet.Packet.{Packet}
use Rattle.fx_model.specs.declared.packet.State.TheVariants.{New}
use Rattle.fx_model.specs.declared.resources.Endpoint.{Endpoint}
use Rattle.fx_model.specs.declared.resources.Update.{Update}
use Rattle.fx_model.specs.Criteria.{has_ports}
use Rattle.fx_model.specs.Formed.{is_formed, is_formed_endpoint}
use Rattle.fx_fields.specs.declared.fault.ReadFault.{ReadFault}
use Rattle.fx_fields.specs.declared.fault.ReadFault.TheVariants.{BadField, Unsupported}
use Rattle.fx_fields.specs.declared.texts.TextForm.TheVariants.{Name, Interface}
use Rattle.fx_fields.specs.Fields.{formed, required, defaulted, object_at, section, items}
use Rattle.fx_fields.specs.Forms.{is_name_byte, has_length, is_interface, passing, text}
use Rattle.fx_fields.specs.Metadata.{global_metadata_in}
use Rattle.fx_fields.specs.Names.{name_in}
use Rattle.fx_fields.specs.Values.{whole, protocol_in}
use Rattle.fx_fields.proofs.Readings.{then-if, read-if, required-if, items-each, weaker-if, both, first_of, second_of, text-formed}
use Rattle.fx_json.specs.Packets.{state, header, layer, packet_between}
use Rattle.fx_json.specs.Ports.{port_protocol}
use Rattle.fx_hostep.specs.declared.failsafe.Failsafe.{Failsafe}
use Rattle.fx_hostep.specs.declared.failsafe.FailsafePort.{FailsafePort}
use Rattle.fx_hostep.specs.declared.packet.HostPacket.{HostPacket}
use Rattle.fx_hostep.specs.declared.reading.HostPlace.{HostPlace}
use Rattle.fx_hostep.specs.FailsafePorts.{has_port_protocol, have_port_protocols}
use Rattle.fx_hostep.specs.HostFields.{host_place, host_holdings, host_of, host_in, host_put, host_delete, failsafe_fields, failsafe_port, failsafe_at, failsafe_of, packet_at, host_packet_at, host_packet_of}
use Rattle.fx_hostep.specs.HostForms.{is_star, own_interface, host_interface, direction}
use Rattle.fx_hostep.specs.HostRuns.{IsAt, IsHostPacket}

-- ---- interfaces

abbrev IsShort : List ℕ → Type 0
IsShort s = nat_le (length s) 15 ≡ true

refused-if : {A : Type 0} (P : A → Type 0) (b : Bool) (fault : ReadFault) (answer : Result A ReadFault) → IfOk answer P → IfOk (if b then Err fault else answer) P
refused-if P true fault answer is = tt
refused-if P false fault answer is = is

interface-short : (s : List ℕ) → is_interface s ≡ true → IsShort s
interface-short s e = second_of (nat_le 1 (length s)) (nat_le (length s) 15) (first_of (has_length 1 15 s) (list_all is_name_byte s) e)

host_interface-short : (path : List ℕ) (d : Data) → IfOk (host_interface path d) IsShort
host_interface-short path d =
    refused-if IsShort (is_star (as_str d)) (Unsupported path) _
    (then-if IsShort (text Interface path d) (own_interface path) (λ s s_read.
    refused-if IsShort (starts_with nat_eq s (codes "cali")) (BadField path) (Ok s)
    (interface-short s (read-if (λ (s : List ℕ). is_interface s ≡ true) (text Interface path d) s (text-formed Interface path d) s_read))))

-- ---- host endpoints

abbrev StandsShort : HostPlace → Type 0
StandsShort p = IsShort p.iface

abbrev HasShort : Endpoint → Type 0
HasShort e = is_formed_endpoint e ≡ true

host_place-short : (path : List ℕ) (d : Data) → IfOk (host_place path d) StandsShort
unfolding host_place
host_place-short path d =
    then-if StandsShort (required (text Name) path (codes "node") d) _ (λ node _.
    then-if StandsShort (required host_interface path (codes "interfaceName") d) _ (λ iface iface_read.
    read-if IsShort (required host_interface path (codes "interfaceName") d) iface (required-if IsShort host_interface host_interface-short path (codes "interfaceName") d) iface_read))

host_of-short : (labels : LabelMap) (path : List ℕ) (d : Data) → IfOk (host_of labels path d) HasShort
unfolding host_of
host_of-short labels path d =
    then-if HasShort (host_place path d) _ (λ place place_read.
    then-if HasShort (host_holdings path d) _ (λ held _.
    read-if StandsShort (host_place path d) place (host_place-short path d) place_read))

host_in-short : (labels : LabelMap) (d : Data) → IfOk (host_in labels d) HasShort
unfolding host_in
host_in-short labels d = then-if HasShort (section (codes "spec") (codes "spec") d) _ (λ spec _. host_of-short labels (codes "spec") spec)

abbrev IsFormedUpdate : Update → Type 0
IsFormedUpdate u = is_formed u ≡ true

pub host_put-formed : (d : Data) → IfOk (host_put d) IsFormedUpdate
unfolding host_put
host_put-formed d =
    then-if IsFormedUpdate (global_metadata_in d) _ (λ about _.
    then-if IsFormedUpdate (host_in about.labels d) _ (λ endpoint endpoint_read.
    read-if HasShort (host_in about.labels d) endpoint (host_in-short about.labels d) endpoint_read))

pub host_delete-formed : (d : Data) → IfOk (host_delete d) IsFormedUpdate
unfolding host_delete
host_delete-formed d = then-if IsFormedUpdate (name_in d) _ (λ name _. refl)

-- ---- failsafe ports

abbrev HasPorts : Proto → Type 0
HasPorts p = has_ports p.0 ≡ true

passed : (b : Bool) (path : List ℕ) (p : Proto) → has_ports p.0 ≡ b → IfOk (formed path (if b then Some p else None)) HasPorts
passed true path p e = e
passed false path p e = tt

port_protocol-if : (path : List ℕ) (d : Data) → IfOk (port_protocol path d) HasPorts
port_protocol-if path d = of (protocol_in d)
  where
    of : (o : Option Proto) → IfOk (formed path (passing (λ p. has_ports p.0) o)) HasPorts
    of None = tt
    of (Some p) = passed (has_ports p.0) path p refl

abbrev IsOfPorts : FailsafePort → Type 0
IsOfPorts p = has_port_protocol p ≡ true

failsafe_fields-ports : (path : List ℕ) (d : Data) → IfOk (failsafe_fields path d) IsOfPorts
unfolding failsafe_fields
failsafe_fields-ports path d =
    then-if IsOfPorts (required port_protocol path (codes "protocol") d) _ (λ proto proto_read.
    then-if IsOfPorts (required (whole 1 65535) path (codes "port") d) _ (λ number _.
    read-if HasPorts (required port_protocol path (codes "protocol") d) proto (required-if HasPorts port_protocol port_protocol-if path (codes "protocol") d) proto_read))

failsafe_port-ports : (path : List ℕ) (d : Data) → IfOk (failsafe_port path d) IsOfPorts
failsafe_port-ports path d = then-if IsOfPorts (object_at path d) (failsafe_fields path) (λ o _. failsafe_fields-ports path o)

abbrev AreOfPorts : List FailsafePort → Type 0
AreOfPorts ps = list_all has_port_protocol ps ≡ true

abbrev HasPortProtocols : Failsafe → Type 0
HasPortProtocols f = have_port_protocols f ≡ true

failsafe_at-ports : (path : List ℕ) (d : Data) → IfOk (failsafe_at path d) HasPortProtocols
unfolding failsafe_at
failsafe_at-ports path d =
    then-if HasPortProtocols (items failsafe_port path (codes "inbound") d) _ (λ inbound inbound_read.
    then-if HasPortProtocols (items failsafe_port path (codes "outbound") d) _ (λ outbound outbound_read.
    both (list_all has_port_protocol inbound) (list_all has_port_protocol outbound)
    (read-if AreOfPorts (items failsafe_port path (codes "inbound") d) inbound (items-each has_port_protocol failsafe_port failsafe_port-ports path (codes "inbound") d) inbound_read)
    (read-if AreOfPorts (items failsafe_port path (codes "outbound") d) outbound (items-each has_port_protocol failsafe_port failsafe_port-ports path (codes "outbound") d) outbound_read)))

pub failsafe_of-ports : (d : Data) → IfOk (failsafe_of d) HasPortProtocols
unfolding failsafe_of
failsafe_of-ports d = failsafe_at-ports (codes "failsafe") d

-- ---- packets

abbrev GoesBetween : List ℕ → List ℕ → Packet → Type 0
GoesBetween iface_in iface_out a = (a.iface_in ≡ iface_in) × (a.iface_out ≡ iface_out)

packet_between-ends : (iface_in iface_out path : List ℕ) (d : Data) → IfOk (packet_between iface_in iface_out path d) (GoesBetween iface_in iface_out)
unfolding packet_between
packet_between-ends iface_in iface_out path d =
    then-if (GoesBetween iface_in iface_out) (header path d) _ (λ ip _.
    then-if (GoesBetween iface_in iface_out) (layer path d) _ (λ behind _.
    then-if (GoesBetween iface_in iface_out) (defaulted New state path (codes "state") d) _ (λ connection _. (refl, refl))))

packet_at-sides : (inbound : Bool) (iface path : List ℕ) (d : Data) → IfOk (packet_at inbound iface path d) (IsAt inbound iface)
packet_at-sides true iface path d = packet_between-ends iface [] path d
packet_at-sides false iface path d = weaker-if (GoesBetween [] iface) (IsAt false iface) (packet_between [] iface path d) (λ a h. (h.1, h.0)) (packet_between-ends [] iface path d)

host_packet_at-sides : (path : List ℕ) (d : Data) → IfOk (host_packet_at path d) (λ p. IsHostPacket p)
unfolding host_packet_at
host_packet_at-sides path d =
    then-if P (required direction path (codes "direction") d) _ (λ inbound _.
    then-if P (required (text Interface) path (codes "interface") d) _ (λ iface _.
    then-if P (packet_at inbound iface path d) _ (λ packet packet_read.
    read-if (IsAt inbound iface) (packet_at inbound iface path d) packet (packet_at-sides inbound iface path d) packet_read)))
  where
    P : HostPacket → Type 0
    P p = IsHostPacket p

pub host_packet_of-sides : (d : Data) → IfOk (host_packet_of d) (λ p. IsHostPacket p)
unfolding host_packet_of
host_packet_of-sides d = host_packet_at-sides (codes "hostPacket") d
