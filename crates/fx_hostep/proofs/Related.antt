-- Of a host endpoint's policies and profiles: a walk that keeps what was last keeps the reason that a walk by the sides of a packet's way
-- keeps, and no rule of theirs is one of failsafe ports.
use Rattle.std.proofs.Common.{◌≡◌, ℕ, Bool, true, false, List, [], ◌∷◌, ◌++◌, Option, Some, None, refl, sym, ap, ◌∙◌, subst}
use Rattle.std.specs.Str.{bytes_eq}
use Rattle.fx_model.specs.declared.packet.Verdict.{Verdict}
use Rattle.fx_model.specs.declared.packet.Verdict.TheVariants.{Allow, Deny}
use Rattle.fx_model.specs.declared.view.ViewTier.{ViewTier}
use Rattle.fx_model.specs.declared.view.ViewEndpoint.{ViewEndpoint}
use Rattle.fx_model.specs.declared.chain.Reason.{Reason}
use Rattle.fx_model.specs.declared.chain.Tag.{Tag}
use Rattle.fx_model.specs.declared.chain.Tag.TheVariants.{Plain, Why}
use Rattle.fx_model.specs.declared.chain.Tag.TheVariants as tag
use Rattle.fx_model.specs.declared.chain.ChainRule.{ChainRule}
use Rattle.fx_model.specs.Directions.{Direction, Ingress, Egress}
use Rattle.fx_model.specs.Rendering.{plain, clear_mark, accept_mark}
use Rattle.fx_model.specs.Ranks.{IsRanked, rank_of}
use Rattle.fx_model.specs.Tables.{ChainName, Chains, forward, policy_chain, profile_chain, policy_jumps, tier_end, tier_rules, pass_or_drop, profile_jumps, tiers_side}
use Rattle.fx_model.specs.Machine.{Test, Notes, Reasons, with_reason, with_tag, last_reason}
use Rattle.fx_model.specs.Walk.{Onward, Ended, verdict_of, noted_in, over_rules, over_chain}
use Rattle.fx_model.specs.Policy.{Decision}
use Rattle.fx_walk.specs.FromChain.{LastSeen, hop_at, last_match, reason_or}
use Rattle.fx_walk.proofs.Seen.{seen_by, verdict-seen, noted-seen, rules-seen, chain-seen}
use Rattle.fx_walk.proofs.Sides.{ConcludesAs}
use Rattle.fx_hostep.specs.HostRuns.{is_failsafe_chain, ends_in_failsafe}
use Rattle.fx_hostep.proofs.KeptAlong.{Keeps, AllKeep, rules_kept, chain_kept}

-- ---- both walks at once

-- what each of the two keeps
abbrev Both : Type 0
Both = Reasons × LastSeen

abbrev note_both : Notes Both
note_both c p r x = (last_reason c p r x.0, last_match c p r x.1)

-- both have one reason, and the last rule isn't one of failsafe ports
record Alike (x : Both) : Type 0 where
  side : x.0.side ≡ Some Egress
  reason : x.0.egress ≡ x.1.reason
  out : ends_in_failsafe x.1.last ≡ false

-- a chain that is neither the first nor one of failsafe ports
record IsInner (c : ChainName) : Type 0 where
  first : bytes_eq c forward ≡ false
  failsafe : is_failsafe_chain c ≡ false

abbrev TaggedAlike : Tag → Reasons → LastSeen → Type 0
TaggedAlike g s t = ((with_tag g s).side ≡ Some Egress) × ((with_tag g s).egress ≡ reason_or g t.reason)

tagged_alike : (g : Tag) (s : Reasons) (t : LastSeen) → s.side ≡ Some Egress → s.egress ≡ t.reason → TaggedAlike g s t
tagged_alike Plain s t side same = (side, same)
tagged_alike tag.Log s t side same = (side, same)
tagged_alike (Why w) s t side same =
    let Q : Option Direction → Type 0 = λ o. ((with_reason o w s).side ≡ Some Egress) × ((with_reason o w s).egress ≡ Some w) in
    subst Q (sym side) (side, refl)

noted_inner : (c : ChainName) → bytes_eq c forward ≡ false → (p : ℕ) (r : ChainRule) (s : Reasons) → last_reason c p r s ≡ with_tag r.tag s
unfolding last_reason
noted_inner c inner p r s = rw (inner, last_reason) refl

inner_keeps : (c : ChainName) → IsInner c → Keeps note_both Alike c
inner_keeps c inner p r x h =
    let tagged = tagged_alike r.tag x.0 x.1 h.side h.reason in
    let noted = noted_inner c inner.first p r x.0 in
    record {
      side = ap (λ (s : Reasons). s.side) noted ∙ tagged.0;
      reason = ap (λ (s : Reasons). s.egress) noted ∙ tagged.1;
      out = inner.failsafe;
    }

-- ---- what the walk of policies and profiles tells

-- the rules of a host endpoint's policies and profiles
abbrev pub guarding : Direction → ViewEndpoint → List ChainRule
guarding d e = plain [] (clear_mark accept_mark) ∷ tier_rules d (tiers_side d e) (profile_jumps d e.profiles)

-- the reason stands in place of that of the way out
abbrev pub begun : Reasons
begun = record { side = Some Egress; egress = None; ingress = None }

abbrev TellsOf : Verdict → Option Reason → Decision → Type 0
TellsOf v why x = (v ≡ x.verdict) × (why ≡ Some x.why)

concluded : (e : Ended Reasons) (x : Decision) → ConcludesAs e begun x → TellsOf (verdict_of e) (noted_in e).egress x
concluded e x h = by_verdict x.verdict x.why h
  where
    by_verdict : (w : Verdict) (why : Reason) → ConcludesAs e begun (record { verdict = w; why = why }) → (verdict_of e ≡ w) × ((noted_in e).egress ≡ Some why)
    by_verdict Allow why k = (ap verdict_of k.1, ap (λ (y : Ended Reasons). (noted_in y).egress) k.1)
    by_verdict Deny why k = (ap verdict_of k, ap (λ (y : Ended Reasons). (noted_in y).egress) k)

-- what a walk that keeps what was last tells, where one by sides concludes so
pub record Told (e : Ended LastSeen) (x : Decision) : Type 0 where
  pub verdict : verdict_of e ≡ x.verdict
  pub reason : (noted_in e).reason ≡ Some x.why
  pub out : ends_in_failsafe (noted_in e).last ≡ false

-- ---- the rules behind the failsafe ports

policy_inner : (d : Direction) (key : List ℕ) → IsInner (policy_chain d key)
policy_inner Ingress key = record { first = refl; failsafe = refl }
policy_inner Egress key = record { first = refl; failsafe = refl }

profile_inner : (d : Direction) (key : List ℕ) → IsInner (profile_chain d key)
profile_inner Ingress key = record { first = refl; failsafe = refl }
profile_inner Egress key = record { first = refl; failsafe = refl }

policy_rank : (d : Direction) (key : List ℕ) → rank_of (policy_chain d key) ≡ 0
policy_rank Ingress key = refl
policy_rank Egress key = refl

profile_rank : (d : Direction) (key : List ℕ) → rank_of (profile_chain d key) ≡ 0
profile_rank Ingress key = refl
profile_rank Egress key = refl

module _ (test : Test) (chains : Chains) (ranked : IsRanked chains) (n : ℕ) where
  abbrev both_call : ChainName → Onward Both
  both_call = over_chain note_both test chains n

  abbrev Keep : List ChainRule → Type 0
  Keep rs = AllKeep note_both Alike test both_call rs

  policy_keeps : (d : Direction) (key : List ℕ) (m : ℕ) (x : Both) → Alike x → Alike (noted_in (both_call (policy_chain d key) m x))
  policy_keeps d key m x h =
      chain_kept note_both Alike test chains ranked n (policy_chain d key) (policy_rank d key) (inner_keeps (policy_chain d key) (policy_inner d key)) m x h

  profile_keeps : (d : Direction) (key : List ℕ) (m : ℕ) (x : Both) → Alike x → Alike (noted_in (both_call (profile_chain d key) m x))
  profile_keeps d key m x h =
      chain_kept note_both Alike test chains ranked n (profile_chain d key) (profile_rank d key) (inner_keeps (profile_chain d key) (profile_inner d key)) m x h

  policies_keep : (d : Direction) (keys : List (List ℕ)) (rest : List ChainRule) → Keep rest → Keep (policy_jumps d keys ++ rest)
  policies_keep d [] rest k = k
  policies_keep d (key ∷ keys) rest k = (policy_keeps d key, (tt, policies_keep d keys rest k))

  end_keeps : (b : Bool) (name : List ℕ) (rest : List ChainRule) → Keep rest → Keep (pass_or_drop b name ++ rest)
  end_keeps true name rest k = k
  end_keeps false name rest k = (tt, k)

  tiers_keep : (d : Direction) (ts : List ViewTier) (rest : List ChainRule) → Keep rest → Keep (tier_rules d ts rest)
  tiers_keep d [] rest k = k
  tiers_keep d (t ∷ ts) rest k =
      (tt, policies_keep d t.policies (tier_end t ++ tier_rules d ts rest) (end_keeps t.pass_at_end t.name (tier_rules d ts rest) (tiers_keep d ts rest k)))

  profiles_keep : (d : Direction) (keys : List (List ℕ)) → Keep (profile_jumps d keys)
  profiles_keep d [] = (tt, tt)
  profiles_keep d (key ∷ keys) = (profile_keeps d key, (tt, profiles_keep d keys))

  -- ---- their walk

  module _ (c : ChainName) (first : bytes_eq c forward ≡ false) (failsafe : is_failsafe_chain c ≡ false) (d : Direction) (e : ViewEndpoint) (p m q : ℕ) (x : Decision) where
    -- another rule of the chain was the last before them
    abbrev pub seen_there : LastSeen
    seen_there = record { reason = None; last = Some (hop_at c q) }

    abbrev by_both : Ended Both
    by_both = over_rules note_both test both_call c p (guarding d e) m (begun, seen_there)

    abbrev pub by_sides : Ended Reasons
    by_sides = over_rules last_reason test (over_chain last_reason test chains n) c p (guarding d e) m begun

    abbrev pub by_last : Ended LastSeen
    by_last = over_rules last_match test (over_chain last_match test chains n) c p (guarding d e) m seen_there

    sides_seen : seen_by (λ (y : Both). y.0) by_both ≡ by_sides
    sides_seen =
        rules-seen (λ (y : Both). y.0) note_both last_reason (λ b k r y. refl) test both_call (over_chain last_reason test chains n)
        (λ b k y. chain-seen (λ (y : Both). y.0) note_both last_reason (λ b k r y. refl) test chains n b k y) c p (guarding d e) m (begun, seen_there)

    last_seen : seen_by (λ (y : Both). y.1) by_both ≡ by_last
    last_seen =
        rules-seen (λ (y : Both). y.1) note_both last_match (λ b k r y. refl) test both_call (over_chain last_match test chains n)
        (λ b k y. chain-seen (λ (y : Both). y.1) note_both last_match (λ b k r y. refl) test chains n b k y) c p (guarding d e) m (begun, seen_there)

    alike_at_end : Alike (noted_in by_both)
    alike_at_end =
        rules_kept note_both Alike test both_call c (inner_keeps c (record { first = first; failsafe = failsafe })) p (guarding d e)
        (tt, tiers_keep d (tiers_side d e) (profile_jumps d e.profiles) (profiles_keep d e.profiles)) m (begun, seen_there)
        (record { side = refl; reason = refl; out = failsafe })

    pub told : ConcludesAs by_sides begun x → Told by_last x
    told h =
        let whole = concluded by_sides x h in
        let last_noted : noted_in by_last ≡ (noted_in by_both).1 = ap noted_in (sym last_seen) ∙ noted-seen (λ (y : Both). y.1) by_both in
        let sides_noted : noted_in by_sides ≡ (noted_in by_both).0 = ap noted_in (sym sides_seen) ∙ noted-seen (λ (y : Both). y.0) by_both in
        record {
          verdict = ap verdict_of (sym last_seen) ∙ verdict-seen (λ (y : Both). y.1) by_both ∙ sym (verdict-seen (λ (y : Both). y.0) by_both) ∙ ap verdict_of sides_seen ∙ whole.0;
          reason = ap (λ (s : LastSeen). s.reason) last_noted ∙ sym alike_at_end.reason ∙ ap (λ (s : Reasons). s.egress) (sym sides_noted) ∙ whole.1;
          out = ap (λ (s : LastSeen). ends_in_failsafe s.last) last_noted ∙ alike_at_end.out;
        }
