use Rattle.std.proofs.Common.{◌≡◌, true, List, [], sym, ap, ◌∙◌, subst}
use Rattle.std.specs.FinMap as maps
use Rattle.std.specs.List.{concat}
use Rattle.std.specs.Option.{option_copied}
use Rattle.fx_model.specs.Machine.{Traces}
use Rattle.fx_model.specs.PacketTexts.{packet_lines}
use Rattle.fx_model.specs.Tables.{Tables, forward}
use Rattle.fx_walk.specs.WalkEnds.{hops_of}
use Rattle.fx_walk.specs.declared.outcome.Hop.{Hop}
use Rattle.fx_walk.proofs.Families.{first_there}
use Rattle.fx_replay.proofs.PacketLines.{rendered_text}
use Rattle.fx_replay.proofs.replay.Replay.decided.Goals as goal

pub trace-requires : goal.trace-requires
trace-requires g c =
    subst (λ (t : Tables). maps.contains_key t.chains forward ≡ true) (sym c.sent_tables.ensures.sent)
    (first_there c.args.self.now.agent.sent)

pub returns : goal.returns
returns g c =
    let a = c.args.packet.now in
    let o = c.in_ok-outcome.outcome in
    let path = c.trace.new.path.items in
    let traced = subst (λ (hops : List Hop). Traces c.sent_tables.result.now a (hops_of hops) (hops_of path) o.verdict (option_copied o.egress) (option_copied o.ingress)) c.new-path.ensures.items c.in_ok-outcome.ensures.machine in
    let run = subst (λ (t : Tables). Traces t a [] (hops_of path) o.verdict (option_copied o.egress) (option_copied o.ingress)) c.sent_tables.ensures.sent traced in
    ap concat c.in_ok-lines.ensures
    ∙ ap (λ (hops : List Hop). concat (packet_lines (hops_of hops) a.iface_in a.iface_out (option_copied o.egress) (option_copied o.ingress) o.verdict)) c.as_slice.ensures.value
    ∙ rendered_text c.args.self.now.agent.sent c.sent_tables.ensures.closed a (hops_of path) o.verdict (option_copied o.egress) (option_copied o.ingress) run
