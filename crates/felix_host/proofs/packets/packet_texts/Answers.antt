use Rattle.felix_host.proofs.Policing.{decided_text}
use Rattle.felix_host.proofs.packets.packet_texts.Goals as goal

pub returns : goal.returns
returns c = decided_text c.args.tables.now c.requires.ranked c.args.packet.now _ _ c.host_decide-outcome.ensures.machine _ c.in_ok-lines.ensures
