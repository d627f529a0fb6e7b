use Rattle.std.proofs.Common.{List, Option, ap, ◌∙◌, subst}
use Rattle.std.specs.List.{concat}
use Rattle.std.specs.Option.{option_copied}
use Rattle.std.specs.Prelude.{option_map}
use Rattle.fx_model.specs.declared.chain.Reason.{Reason}
use Rattle.fx_model.specs.Machine.{Traces}
use Rattle.fx_model.specs.PacketTexts.{packet_lines}
use Rattle.fx_fields.specs.declared.policy_fields.PolicyType.TheVariants.{Ingress, Egress}
use Rattle.fx_walk.specs.WalkEnds.{hops_of}
use Rattle.fx_walk.specs.declared.outcome.Hop.{Hop}
use Rattle.fx_services.specs.Places.{flushed_places, reason_as_written}
use Rattle.felix_services.proofs.PacketLemmas.{told_text}
use Rattle.felix_services.proofs.packets.written_texts.Goals as goal

pub returns : goal.returns
returns c =
    let a = c.args.packet.now in
    let tables = c.args.tables.now in
    let P = flushed_places c.args.places.now.lists c.args.places.now.before in
    let o = c.in_ok-outcome.outcome in
    let path = c.trace.new.path.items in
    let e = option_map (reason_as_written P Egress) (option_copied o.egress) in
    let i = option_map (reason_as_written P Ingress) (option_copied o.ingress) in
    let run = subst (λ (hops : List Hop). Traces tables a (hops_of hops) (hops_of path) o.verdict (option_copied o.egress) (option_copied o.ingress)) c.new-path.ensures.items c.in_ok-outcome.ensures.machine in
    ap concat c.in_ok-lines.ensures
    ∙ ap (λ (hops : List Hop). concat (packet_lines (hops_of hops) a.iface_in a.iface_out (option_copied c.as_ref.result) (option_copied c.as_ref-2.result) o.verdict)) c.as_slice.ensures.value
    ∙ ap (λ (x : Option Reason). concat (packet_lines (hops_of path) a.iface_in a.iface_out x (option_copied c.as_ref-2.result) o.verdict)) (c.as_ref.ensures.value ∙ c.in_ok-egress.ensures)
    ∙ ap (λ (x : Option Reason). concat (packet_lines (hops_of path) a.iface_in a.iface_out e x o.verdict)) (c.as_ref-2.ensures.value ∙ c.in_ok-ingress.ensures)
    ∙ told_text tables P a c.requires.ranked (hops_of path) o.verdict (option_copied o.egress) (option_copied o.ingress) run
