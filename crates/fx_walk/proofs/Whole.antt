-- The run of a packet, from the walk of the first chain.
use Rattle.std.proofs.Common.{◌≡◌, ℕ, List, [], Option, refl, sym, ap, ◌∙◌, subst}
use Rattle.fx_model.specs.declared.packet.Packet.{Packet}
use Rattle.fx_model.specs.declared.packet.Verdict.{Verdict}
use Rattle.fx_model.specs.declared.chain.Reason.{Reason}
use Rattle.fx_model.specs.Tables.{ChainName, Tables, forward}
use Rattle.fx_model.specs.Ranks.{IsRanked}
use Rattle.fx_model.specs.Machine.{Notes, Reasons, Trace, holds, last_reason, hops_and_reasons, nothing_noted, Run, at_rule, Decides, Traces, CutsRun}
use Rattle.fx_model.specs.Walk.{Ended, verdict_of, noted_in, over_chain}
use Rattle.fx_walk.specs.declared.outcome.Hop.{Hop}
use Rattle.fx_walk.specs.declared.notes.WalkEnd.{WalkEnd}
use Rattle.fx_walk.specs.declared.notes.WalkEnd.TheVariants.{Accepted, Dropped, Left, Through}
use Rattle.fx_walk.specs.WalkEnds.{chain_walk, ended_by, ended_of, hops_of, trace_of, BreaksOff}
use Rattle.fx_walk.proofs.Paths.{follows_extends}
use Rattle.fx_walk.proofs.Walks.{ended-run, one-end}

module _ {S : Type 0} (note : Notes S) (tables : Tables) (a : Packet) (ranked : IsRanked tables.chains) where
  -- where the walk of the first chain ends so, the run does
  run_of : (c : ChainName) → c ≡ forward → (s : S) (e : Ended S) → e ≡ over_chain note (holds tables.sets a) tables.chains 5 c 0 s → Run S note (holds tables.sets a) tables.chains (at_rule forward 0 [] 0 s) (verdict_of e) (noted_in e)
  run_of c is s e walk =
      subst (λ x. Run S note (holds tables.sets a) tables.chains (at_rule forward 0 [] 0 s) (verdict_of x) (noted_in x))
      (sym (walk ∙ ap (λ (k : ChainName). over_chain note (holds tables.sets a) tables.chains 5 k 0 s) is)) (ended-run note (holds tables.sets a) tables.chains ranked s)

module _ (tables : Tables) (a : Packet) (ranked : IsRanked tables.chains) (c : ChainName) (is : c ≡ forward) (m : ℕ) (zero : m ≡ 0) (first : Reasons) (none : first ≡ nothing_noted) where
  pub decides_run : (e : Ended Reasons) → e ≡ chain_walk last_reason tables a 5 c m first → (v : Verdict) (egress ingress : Option Reason) → v ≡ verdict_of e → egress ≡ (noted_in e).egress → ingress ≡ (noted_in e).ingress → Decides tables a v egress ingress
  decides_run e walk v egress ingress ev ee ei =
      ((noted_in e).side, rw (ev, ee, ei) (run_of last_reason tables a ranked c is nothing_noted e (walk ∙ ap (λ k. chain_walk last_reason tables a 5 c k first) zero ∙ ap (chain_walk last_reason tables a 5 c 0) none)))

  same_verdict : (path : List Hop) (e : WalkEnd) → verdict_of (ended_by (trace_of path) e) ≡ verdict_of (ended_of e)
  same_verdict path (Accepted s) = refl
  same_verdict path (Dropped s) = refl
  same_verdict path (Left s) = refl
  same_verdict path (Through s) = refl

  same_notes : (path : List Hop) (e : WalkEnd) → noted_in (ended_by (trace_of path) e) ≡ record { hops = hops_of path; reasons = noted_in (ended_of e) }
  same_notes path (Accepted s) = refl
  same_notes path (Dropped s) = refl
  same_notes path (Left s) = refl
  same_notes path (Through s) = refl

  abbrev start : Reasons → List Hop → Trace
  start s before = record { hops = hops_of before; reasons = s }

  abbrev from : List Hop → Trace
  from before = start nothing_noted before

  pub traces_run : (before after : List Hop) (e : WalkEnd) → ended_by (trace_of after) e ≡ chain_walk hops_and_reasons tables a 5 c m (start first before) → (v : Verdict) (egress ingress : Option Reason) → v ≡ verdict_of (ended_of e) → egress ≡ (noted_in (ended_of e)).egress → ingress ≡ (noted_in (ended_of e)).ingress → Traces tables a (hops_of before) (hops_of after) v egress ingress
  traces_run before after e walk v egress ingress ev ee ei = (
    (noted_in (ended_of e)).side,
    rw (ev, ee, ei) (subst (λ w. Run Trace hops_and_reasons (holds tables.sets a) tables.chains (at_rule forward 0 [] 0 (from before)) w (record { hops = hops_of after; reasons = noted_in (ended_of e) })) (same_verdict after e)
        (subst (λ t. Run Trace hops_and_reasons (holds tables.sets a) tables.chains (at_rule forward 0 [] 0 (from before)) (verdict_of (ended_by (trace_of after) e)) t) (same_notes after e)
        (run_of hops_and_reasons tables a ranked c is (from before) (ended_by (trace_of after) e) (walk ∙ ap (λ k. chain_walk hops_and_reasons tables a 5 c k (start first before)) zero ∙ ap (λ s. chain_walk hops_and_reasons tables a 5 c 0 (start s before)) none)))),
  )

  pub cuts_run : (before cut : List Hop) → BreaksOff Trace hops_and_reasons (trace_of cut) (start first before) (chain_walk hops_and_reasons tables a 5 c m (start first before)) → CutsRun tables a (hops_of before) (hops_of cut)
  cuts_run before cut h = (
    follows_extends h.begun,
    λ after v egress ingress run.
        let rest = follows_extends h.rest in (
          rest.0,
          ap (λ (x : Trace). x.hops) (one-end hops_and_reasons (holds tables.sets a) tables.chains run.1 (run_of hops_and_reasons tables a ranked c is (from before) _ refl)).1
              ∙ ap (λ s. (noted_in (chain_walk hops_and_reasons tables a 5 c 0 (start s before))).hops) (sym none)
              ∙ ap (λ k. (noted_in (chain_walk hops_and_reasons tables a 5 c k (start first before))).hops) (sym zero) ∙ rest.1,
        ),
  )
