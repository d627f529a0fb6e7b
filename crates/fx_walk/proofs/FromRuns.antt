-- The run of a packet from any chain, from the walk of that chain.
use Rattle.std.proofs.Common.{◌≡◌, ℕ, true, false, ◌||◌, List, [], ◌∷◌, Option, Some, None, refl, sym, ap, ◌∙◌, subst}
use Rattle.std.specs.List.{list_any}
use Rattle.fx_model.specs.declared.packet.Packet.{Packet}
use Rattle.fx_model.specs.declared.packet.Verdict.{Verdict}
use Rattle.fx_model.specs.declared.chain.Reason.{Reason}
use Rattle.fx_model.specs.declared.chain.Tag.{Tag}
use Rattle.fx_model.specs.declared.chain.Tag.TheVariants.{Plain, Why}
use Rattle.fx_model.specs.declared.chain.Tag.TheVariants as tag
use Rattle.fx_model.specs.Tables.{ChainName, Tables}
use Rattle.fx_model.specs.Ranks.{IsRanked}
use Rattle.fx_model.specs.Machine.{Reasons, holds, nothing_noted, Run, at_rule}
use Rattle.fx_model.specs.Walk.{Ended, verdict_of, noted_in, over_chain}
use Rattle.fx_walk.specs.declared.outcome.Hop.{Hop}
use Rattle.fx_walk.specs.declared.notes.WalkEnd.{WalkEnd}
use Rattle.fx_walk.specs.declared.notes.WalkEnd.TheVariants.{Accepted, Dropped, Left, Through}
use Rattle.fx_walk.specs.WalkEnds.{chain_walk, ended_by, ended_of}
use Rattle.fx_walk.specs.FromChain.{Met, each_match, none_met, last_hop, last_why, reason_or, has_reason, LastSeen, last_match, DecidesFrom, RunFromHasOneEnd, NoneMatchedIsNoLast, NoneReasonedIsNoReason}
use Rattle.fx_walk.proofs.Walks.{rank_below_five, ended-run-from, one-end}
use Rattle.fx_walk.proofs.Seen.{seen_by, verdict-seen, noted-seen, chain-seen}

-- what is last of the rules that matched
abbrev pub last_of : List Met → LastSeen
last_of met = record { reason = last_why met; last = last_hop met }

module _ (tables : Tables) (a : Packet) where
  -- a walk that keeps what is last keeps what is last of all
  kept_last : (n : ℕ) (c : ChainName) (m : ℕ) (met : List Met) → seen_by last_of (over_chain each_match (holds tables.sets a) tables.chains n c m met) ≡ over_chain last_match (holds tables.sets a) tables.chains n c m (last_of met)
  kept_last n c m met = chain-seen last_of each_match last_match (λ c p r met. refl) (holds tables.sets a) tables.chains n c m met

  -- where the walk of a chain ends so, the run from it does
  pub from_walk : IsRanked tables.chains → (start : ChainName) (e : Ended LastSeen) → e ≡ chain_walk last_match tables a 5 start 0 (last_of none_met) → DecidesFrom tables start a (verdict_of e) (noted_in e).reason (noted_in e).last
  from_walk ranked start e walk =
      let whole : Ended (List Met) = over_chain each_match (holds tables.sets a) tables.chains 5 start 0 none_met in
      let same : e ≡ seen_by last_of whole = walk ∙ sym (kept_last 5 start 0 none_met) in
      let noted : noted_in e ≡ last_of (noted_in whole) = ap noted_in same ∙ noted-seen last_of whole in
      record {
        met = noted_in whole;
        run = subst (λ w. Run (List Met) each_match (holds tables.sets a) tables.chains (at_rule start 0 [] 0 none_met) w (noted_in whole)) (sym (ap verdict_of same ∙ verdict-seen last_of whole)) (ended-run-from each_match (holds tables.sets a) tables.chains ranked start (rank_below_five start) none_met);
        why_is = ap (λ (x : LastSeen). x.reason) noted;
        last_is = ap (λ (x : LastSeen). x.last) noted;
      }

-- what the code's walk keeps, where this rule was the last
abbrev pub seen_last : Option Hop → Reasons → LastSeen
seen_last last s = record { reason = s.egress; last = last }

same_verdict : (last : Option Hop) (e : WalkEnd) → verdict_of (ended_by (seen_last last) e) ≡ verdict_of (ended_of e)
same_verdict last (Accepted s) = refl
same_verdict last (Dropped s) = refl
same_verdict last (Left s) = refl
same_verdict last (Through s) = refl

same_seen : (last : Option Hop) (e : WalkEnd) → noted_in (ended_by (seen_last last) e) ≡ seen_last last (noted_in (ended_of e))
same_seen last (Accepted s) = refl
same_seen last (Dropped s) = refl
same_seen last (Left s) = refl
same_seen last (Through s) = refl

pub decided_from : (tables : Tables) (a : Packet) → IsRanked tables.chains → (start : ChainName) (m : ℕ) → m ≡ 0 → (first : Reasons) → first ≡ nothing_noted → (last : Option Hop) (e : WalkEnd) → ended_by (seen_last last) e ≡ chain_walk last_match tables a 5 start m (seen_last None first)
    → (v : Verdict) (why : Option Reason) → v ≡ verdict_of (ended_of e) → why ≡ (noted_in (ended_of e)).egress → DecidesFrom tables start a v why last
decided_from tables a ranked start m zero first none last e walk v why ev ew =
    let begun = walk ∙ ap (λ k. chain_walk last_match tables a 5 start k (seen_last None first)) zero ∙ ap (λ s. chain_walk last_match tables a 5 start 0 (seen_last None s)) none in
    let run = from_walk tables a ranked start (ended_by (seen_last last) e) begun in
    record {
      met = run.met;
      run = subst (λ w. Run (List Met) each_match (holds tables.sets a) tables.chains (at_rule start 0 [] 0 none_met) w run.met) (same_verdict last e ∙ sym ev) run.run;
      why_is = ew ∙ ap (λ (x : LastSeen). x.reason) (sym (same_seen last e)) ∙ run.why_is;
      last_is = ap (λ (x : LastSeen). x.last) (sym (same_seen last e)) ∙ run.last_is;
    }

-- ---- laws

pub run_from_has_one_end : RunFromHasOneEnd
run_from_has_one_end tables start a v w e f k l x y =
    let q = one-end {S = List Met} each_match (holds tables.sets a) tables.chains x.run y.run in
    (q.0, x.why_is ∙ ap last_why q.1 ∙ sym y.why_is, x.last_is ∙ ap last_hop q.1 ∙ sym y.last_is)

some_last : {A : Type 0} (k : Hop) → ◌≡◌ {A = Option Hop} (Some k) None → A
some_last k e = cc

no_last : (met : List Met) → last_hop met ≡ None → met ≡ []
no_last [] e = refl
no_last (m ∷ met) e = some_last m.hop e

pub none_matched : NoneMatchedIsNoLast
none_matched tables start a v why last run = (λ e. no_last run.met (sym run.last_is ∙ e), λ e. run.last_is ∙ ap last_hop e)

some_reason : {A : Type 0} (w : Reason) → ◌≡◌ {A = Option Reason} (Some w) None → A
some_reason w e = cc

no_true : {A : Type 0} → true ≡ false → A
no_true e = cc

no_reason : (met : List Met) → last_why met ≡ None → list_any (λ m. has_reason m.tag) met ≡ false
no_reason [] e = refl
no_reason (m ∷ met) e = by_tag m.tag e (no_reason met)
  where
    by_tag : (t : Tag) → reason_or t (last_why met) ≡ None → (last_why met ≡ None → list_any (λ n. has_reason n.tag) met ≡ false) → (has_reason t || list_any (λ n. has_reason n.tag) met) ≡ false
    by_tag Plain e rest = rest e
    by_tag tag.Log e rest = rest e
    by_tag (Why w) e rest = some_reason w e

unreasoned : (met : List Met) → list_any (λ m. has_reason m.tag) met ≡ false → last_why met ≡ None
unreasoned [] e = refl
unreasoned (m ∷ met) e = by_tag m.tag e (unreasoned met)
  where
    by_tag : (t : Tag) → (has_reason t || list_any (λ n. has_reason n.tag) met) ≡ false → (list_any (λ n. has_reason n.tag) met ≡ false → last_why met ≡ None) → reason_or t (last_why met) ≡ None
    by_tag Plain e rest = rest e
    by_tag tag.Log e rest = rest e
    by_tag (Why w) e rest = no_true e

pub none_reasoned : NoneReasonedIsNoReason
none_reasoned tables start a v why last run =
    (λ e. no_reason run.met (sym run.why_is ∙ e), λ e. run.why_is ∙ unreasoned run.met e)
