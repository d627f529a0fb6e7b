-- What a packet line writes, by the machine's run.
use Rattle.std.proofs.Common.{◌≡◌, ℕ, List, [], Option, ap, ◌∙◌}
use Rattle.std.specs.List.{concat}
use Rattle.fx_model.specs.declared.chain.Reason.{Reason}
use Rattle.fx_model.specs.declared.packet.Packet.{Packet}
use Rattle.fx_model.specs.declared.packet.Verdict.{Verdict}
use Rattle.fx_model.specs.Machine.{Trace, holds, hops_and_reasons, Traces}
use Rattle.fx_model.specs.Ranks.{IsRanked}
use Rattle.fx_model.specs.Tables.{ChainName, Tables}
use Rattle.fx_model.specs.Walk.{verdict_of}
use Rattle.fx_walk.specs.PacketPaths.{first_walk}
use Rattle.fx_walk.proofs.Agree.{walk_is_run}
use Rattle.fx_walk.proofs.Walks.{one-end}
use Rattle.fx_services.specs.Places.{PlacesByKey}
use Rattle.felix_services.specs.PacketLines.{packet_text}
use Rattle.felix_services.specs.Policed.{told_lines}

-- where a run ends so, the packet's text is this
pub told_text : (tables : Tables) (P : PlacesByKey) (a : Packet) → IsRanked tables.chains → (path : List (ChainName × ℕ)) (v : Verdict) (e i : Option Reason) → Traces tables a [] path v e i
    → concat (told_lines P a path v e i) ≡ packet_text tables P a
told_text tables P a ranked path v e i run =
    let end = one-end {S = Trace} hops_and_reasons (holds tables.sets a) tables.chains run.1 (walk_is_run tables a [] ranked).1 in
    ap (λ (w : Verdict). concat (told_lines P a path w e i)) end.0
    ∙ ap (λ (t : Trace). concat (told_lines P a t.hops (verdict_of (first_walk tables a [])) t.reasons.egress t.reasons.ingress)) end.1
