-- Failsafe ports: ports of the node that no policy closes, so that an operator doesn't lock himself out. From Felix's
-- configuration (FailsafeInboundHostPorts and FailsafeOutboundHostPorts).
use Rattle.std.specs.Prelude.{List, [], Bool, ◌&&◌, nat_eq}
use Rattle.std.specs.List.{list_any, list_all}
use Rattle.fx_model.specs.declared.packet.Packet.{Packet}
use Rattle.fx_model.specs.Criteria.{has_ports}
use Rattle.fx_model.specs.Directions.{Direction, Ingress, Egress}
use Rattle.fx_hostep.specs.declared.failsafe.FailsafePort.{FailsafePort}
use Rattle.fx_hostep.specs.declared.failsafe.Failsafe.{Failsafe}

abbrev pub no_failsafe : Failsafe
no_failsafe = record { inbound = []; outbound = [] }

-- the ports for packets to the node's own processes, and those for packets from them
abbrev pub ports_for : Direction → Failsafe → List FailsafePort
ports_for Ingress f = f.inbound
ports_for Egress f = f.outbound

-- a packet of the port's protocol to its number
abbrev pub is_open_to : Packet → FailsafePort → Bool
is_open_to a p = nat_eq a.proto.0 p.proto.0 && nat_eq a.dport p.number

abbrev pub is_failsafe : Failsafe → Direction → Packet → Bool
is_failsafe f d a = list_any (is_open_to a) (ports_for d f)

-- the protocols are such as have ports
abbrev pub has_port_protocol : FailsafePort → Bool
has_port_protocol p = has_ports p.proto.0

abbrev pub have_port_protocols : Failsafe → Bool
have_port_protocols f = list_all has_port_protocol f.inbound && list_all has_port_protocol f.outbound
