use Rattle.std.proofs.Common.{◌≡◌, true, IfOk, sym, subst}
use Rattle.std.specs.FinMap as maps
use Rattle.std.specs.List.{concat}
use Rattle.fx_model.specs.Ranks.{IsRanked}
use Rattle.fx_model.specs.Tables.{Tables, forward}
use Rattle.fx_laws.proofs.Leading.{ranked-tables}
use Rattle.fx_services.specs.Places.{flushed_places}
use Rattle.fx_walk.proofs.Families.{first_there}
use Rattle.felix_services.specs.PacketLines.{packet_text}
use Rattle.felix_services.proofs.services.Services.decided.Goals as goal

pub sent_tables-requires : goal.sent_tables-requires
sent_tables-requires g c = record { ready = c.requires.ready.unfailed }

pub written_texts-requires-clause-first : goal.written_texts-requires-clause-first
written_texts-requires-clause-first g c =
    subst (λ (t : Tables). maps.contains_key t.chains forward ≡ true) (sym c.sent_tables.ensures.sent)
    (first_there c.args.self.now.replay.agent.sent)

pub written_texts-requires-clause-ranked : goal.written_texts-requires-clause-ranked
written_texts-requires-clause-ranked g c =
    subst (λ (t : Tables). IsRanked t.chains) (sym c.sent_tables.ensures.sent)
    (ranked-tables c.args.self.now.replay.agent.sent c.sent_tables.ensures.closed)

pub returns : goal.returns
returns g c =
    let was = c.args.self.now in
    let P = flushed_places was.places.lists was.places.before in
    subst (λ (t : Tables). IfOk c.written_texts.result (λ lines. concat lines.items ≡ packet_text t P c.args.packet.now))
    c.sent_tables.ensures.sent c.written_texts.ensures
