use Rattle.serde_json.specs.View.{view}
use Rattle.fx_fields.proofs.Readings.{answered-if}
use Rattle.fx_hostep.specs.HostFields.{host_packet_of}
use Rattle.fx_hostep.specs.HostRuns.{IsHostPacket}
use Rattle.fx_hostep.proofs.FormedHosts.{host_packet_of-sides}
use Rattle.fx_hostep.proofs.lines.read_host_packet.Goals as goal

pub returns-clause-sides : goal.returns-clause-sides
returns-clause-sides c =
    let d = view c.args.value.now in
    answered-if (λ p. IsHostPacket p) (host_packet_of d) c.host_packet_of.result (host_packet_of-sides d) c.host_packet_of.ensures
