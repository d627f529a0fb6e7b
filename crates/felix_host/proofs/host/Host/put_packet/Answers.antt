use Rattle.felix_host.proofs.Served.{tables_hooked, tables_ranked}
use Rattle.felix_host.proofs.host.Host.put_packet.Goals as goal

pub packet_texts-requires-clause-hooks : goal.packet_texts-requires-clause-hooks
packet_texts-requires-clause-hooks g c = tables_hooked c.args.self.now.tables c.requires.tables

pub packet_texts-requires-clause-ranked : goal.packet_texts-requires-clause-ranked
packet_texts-requires-clause-ranked g c = tables_ranked c.args.self.now.tables c.requires.tables
