-- One run, and what the policy reference says.
use Rattle.std.proofs.Common.{◌≡◌, ℕ, List, [], Option, sym, ap, subst, ◌∙◌}
use Rattle.fx_model.specs.declared.packet.Packet.{Packet}
use Rattle.fx_model.specs.declared.packet.Verdict.{Verdict}
use Rattle.fx_model.specs.declared.chain.Reason.{Reason}
use Rattle.fx_model.specs.Views.{view_of}
use Rattle.fx_model.specs.Tables.{ChainName, Tables, forward}
use Rattle.fx_model.specs.ViewTables.{tables_of}
use Rattle.fx_model.specs.Ranks.{IsRanked}
use Rattle.fx_model.specs.Machine.{holds, Reasons, Trace, nothing_noted, last_reason, hops_and_reasons, Run, at_rule, Decides, Traces, RunHasOneEnd}
use Rattle.fx_model.specs.Walk.{Ended, verdict_of, noted_in, over_chain}
use Rattle.fx_model.specs.Policy.{Outcome}
use Rattle.fx_model.specs.ViewPolicy.{TablesAgree, IsPolicyAnswer, PolicyIsKept}
use Rattle.fx_walk.specs.Serving.{IsServedApart}
use Rattle.fx_walk.specs.PacketPaths.{WalkIsRun, PacketHasOnePath, first_walk}
use Rattle.fx_laws.proofs.FormedLemmas.{has_workload_interfaces-view_of}
use Rattle.fx_laws.proofs.Leading.{ranked-tables}
use Rattle.fx_laws.proofs.ViewClosed.{view_of-closed}
use Rattle.fx_walk.proofs.Walks.{ended-run, one-end}
use Rattle.fx_walk.proofs.Seen.{seen_by, verdict-seen, noted-seen, traced_reasons}
use Rattle.fx_walk.proofs.Families.{tables_render}
use Rattle.fx_walk.proofs.FirstPackets.{machine_agrees}
use Rattle.fx_walk.proofs.Servable.{served_apart}
use Rattle.fx_walk.proofs.Wanted.{view_is_policy, formed_rules}

pub run_has_one_end : RunHasOneEnd
run_has_one_end tables a v w e f i j x y =
    let q = one-end {S = Reasons} last_reason (holds tables.sets a) tables.chains x.1 y.1 in
    (q.0, ap (λ (s : Reasons). s.egress) q.1, ap (λ (s : Reasons). s.ingress) q.1)

pub walk_is_run : WalkIsRun
walk_is_run tables a before ranked =
    let start : Trace = record { hops = before; reasons = nothing_noted } in
    let e : Ended Trace = first_walk tables a before in
    ((noted_in e).reasons.side, ended-run hops_and_reasons (holds tables.sets a) tables.chains ranked start)

pub one_path : PacketHasOnePath
one_path tables a before after other v w e f i j x y =
    let q = one-end {S = Trace} hops_and_reasons (holds tables.sets a) tables.chains x.1 y.1 in (
      ap (λ (t : Trace). t.hops) q.1,
      q.0,
      ap (λ (t : Trace). t.reasons.egress) q.1,
      ap (λ (t : Trace). t.reasons.ingress) q.1,
    )

pub tables_agree : TablesAgree
tables_agree v a closed on formed new = machine_agrees a v (tables_of v).chains (tables_render v) formed new on (ranked-tables v closed)

pub policy_is_kept : PolicyIsKept
policy_is_kept dg R a servable new =
    let apart : IsServedApart dg R = served_apart dg R servable.formed servable.clash_free in
    subst (λ (x : Outcome). Decides (tables_of (view_of dg R)) a x.verdict x.egress x.ingress) (view_is_policy dg R a apart)
    (tables_agree (view_of dg R) a (view_of-closed dg R) (has_workload_interfaces-view_of dg R servable.on_workloads) (formed_rules dg R apart) new)

-- the run that writes its path decides as the run does
pub traced_decides : (tables : Tables) (a : Packet) → IsRanked tables.chains → (before after : List (ChainName × ℕ)) (v : Verdict) (e i : Option Reason) → Traces tables a before after v e i → Decides tables a v e i
traced_decides tables a ranked before after v e i run =
    let start : Trace = record { hops = before; reasons = nothing_noted } in
    let traced : Ended Trace = over_chain hops_and_reasons (holds tables.sets a) tables.chains 5 forward 0 start in
    let plain : Ended Reasons = over_chain last_reason (holds tables.sets a) tables.chains 5 forward 0 nothing_noted in
    let end = one-end {S = Trace} hops_and_reasons (holds tables.sets a) tables.chains run.1 (ended-run hops_and_reasons (holds tables.sets a) tables.chains ranked start) in
    let same : seen_by (λ (t : Trace). t.reasons) traced ≡ plain = traced_reasons (holds tables.sets a) tables.chains 5 forward 0 start in
    let w : verdict_of plain ≡ v = ap verdict_of (sym same) ∙ verdict-seen (λ (t : Trace). t.reasons) traced ∙ sym end.0 in
    let n : noted_in plain ≡ record { side = run.0; egress = e; ingress = i } = ap noted_in (sym same) ∙ noted-seen (λ (t : Trace). t.reasons) traced ∙ ap (λ (t : Trace). t.reasons) (sym end.1) in (
      run.0,
      subst (λ u. Run Reasons last_reason (holds tables.sets a) tables.chains (at_rule forward 0 [] 0 nothing_noted) u (record { side = run.0; egress = e; ingress = i })) w
          (subst (λ r. Run Reasons last_reason (holds tables.sets a) tables.chains (at_rule forward 0 [] 0 nothing_noted) (verdict_of plain) r) n (ended-run last_reason (holds tables.sets a) tables.chains ranked nothing_noted)),
    )

-- what is decided on a first packet is what the policy reference says
pub is_policy_answer : (tables : Tables) (a : Packet) (v : Verdict) (e i : Option Reason) → Decides tables a v e i → IsPolicyAnswer tables a v e i
is_policy_answer tables a v e i run dg R is servable new =
    run_has_one_end (tables_of (view_of dg R)) a v _ e _ i _ (subst (λ t. Decides t a v e i) is run) (policy_is_kept dg R a servable new)
