-- What a packet line writes, by the machine's run.
use Rattle.std.proofs.Common.{◌≡◌, ℕ, List, [], Option, ◌∙◌, ap}
use Rattle.std.specs.List.{concat}
use Rattle.fx_model.specs.declared.packet.Packet.{Packet}
use Rattle.fx_model.specs.declared.packet.Verdict.{Verdict}
use Rattle.fx_model.specs.declared.chain.Reason.{Reason}
use Rattle.fx_model.specs.declared.view.View.{View}
use Rattle.fx_model.specs.Machine.{Trace, holds, hops_and_reasons, Traces}
use Rattle.fx_model.specs.Ranks.{IsRanked}
use Rattle.fx_model.specs.Tables.{ChainName, Tables}
use Rattle.fx_model.specs.ViewTables.{tables_of}
use Rattle.fx_model.specs.Closed.{IsClosedView}
use Rattle.fx_model.specs.Walk.{verdict_of}
use Rattle.fx_model.specs.PacketTexts.{packet_lines}
use Rattle.fx_laws.proofs.Leading.{ranked-tables}
use Rattle.fx_walk.proofs.Agree.{walk_is_run}
use Rattle.fx_walk.proofs.Walks.{one-end}
use Rattle.fx_walk.specs.PacketPaths.{first_walk}
use Rattle.fx_replay.specs.PacketRuns.{packet_text}

-- where a run ends so, the packet's text is this
pub run_text : (tables : Tables) (a : Packet) → IsRanked tables.chains → (path : List (ChainName × ℕ)) (v : Verdict) (e i : Option Reason) → Traces tables a [] path v e i
    → concat (packet_lines path a.iface_in a.iface_out e i v) ≡ packet_text tables a
run_text tables a ranked path v e i run =
    let end = one-end {S = Trace} hops_and_reasons (holds tables.sets a) tables.chains run.1 (walk_is_run tables a [] ranked).1 in
    ap (λ (w : Verdict). concat (packet_lines path a.iface_in a.iface_out e i w)) end.0
    ∙ ap (λ (t : Trace). concat (packet_lines t.hops a.iface_in a.iface_out t.reasons.egress t.reasons.ingress (verdict_of (first_walk tables a [])))) end.1

pub rendered_text : (sent : View) → IsClosedView sent → (a : Packet) (path : List (ChainName × ℕ)) (v : Verdict) (egress ingress : Option Reason) → Traces (tables_of sent) a [] path v egress ingress
    → concat (packet_lines path a.iface_in a.iface_out egress ingress v) ≡ packet_text (tables_of sent) a
rendered_text sent closed a path v egress ingress run = run_text (tables_of sent) a (ranked-tables sent closed) path v egress ingress run
