-- The machine's run over the chains of a view has the view's verdict and reasons.
use Rattle.std.proofs.Common.{◌≡◌, ◌⊎◌, inl, inr, ℕ, suc, Bool, true, false, not, ◌||◌, List, [], ◌∷◌, ◌++◌, map, Option, Some, None, is_some, refl, sym, ap, ◌∙◌, subst, arith, lit<, codes}
use Rattle.std.specs.Int.{bit_at}
use Rattle.std.specs.List.{list_any, list_all, flat_map}
use Rattle.std.specs.Str.{bytes_eq}
use Rattle.std.specs.Ordering.{nat_cmp, eq_by_cmp}
use Rattle.std.specs.Cmp.Lexicographic.{slice_cmp, texts_ties}
use Rattle.std.specs.FinMap as maps
use Rattle.fx_base.specs.Same.{both_pass}
use Rattle.fx_model.specs.declared.packet.State.TheVariants.{New}
use Rattle.fx_model.specs.declared.packet.Packet.{Packet}
use Rattle.fx_model.specs.declared.packet.Verdict.{Verdict}
use Rattle.fx_model.specs.declared.packet.Verdict.TheVariants.{Allow, Deny}
use Rattle.fx_model.specs.declared.rules.Action.{Action}
use Rattle.fx_model.specs.declared.rules.Action.TheVariants as action
use Rattle.fx_model.specs.declared.chain.End.{End}
use Rattle.fx_model.specs.declared.chain.Match.{Match}
use Rattle.fx_model.specs.declared.chain.Match.TheVariants as match
use Rattle.fx_model.specs.declared.chain.Target.TheVariants as target
use Rattle.fx_model.specs.declared.chain.Reason.{Reason}
use Rattle.fx_model.specs.declared.chain.Reason.TheVariants as reason
use Rattle.fx_model.specs.declared.chain.ChainRule.{ChainRule}
use Rattle.fx_model.specs.declared.view.View.{View}
use Rattle.fx_model.specs.declared.view_rule.ViewRule.{ViewRule}
use Rattle.fx_model.specs.declared.view.ViewTier.{ViewTier}
use Rattle.fx_model.specs.declared.view.ViewPolicy.{ViewPolicy}
use Rattle.fx_model.specs.declared.view.ViewProfile.{ViewProfile}
use Rattle.fx_model.specs.declared.view.ViewEndpoint.{ViewEndpoint}
use Rattle.fx_model.specs.Directions.{Direction, Ingress, Egress}
use Rattle.fx_model.specs.Formed.{passes, is_formed_view_profile_rule}
use Rattle.fx_model.specs.Rendering.{plain, tagged, clear_mark, is_set, is_clear, accept_mark, pass_mark, rendered_rules}
use Rattle.fx_model.specs.Tables.{ChainName, Chains, Sets, forward, policy_chain, policy_rules, policy_jumps, policy_side, profile_chain, profile_rules, profile_jumps, profile_side, present_or_missing, pass_or_drop, tier_end, tier_rules, tiers_side, endpoint_chain, endpoint_rules, end_of, root_of}
use Rattle.fx_model.specs.Machine.{holds, hold_all, marked, iface_at, state_in, rules_in, Reasons, with_reason, last_reason}
use Rattle.fx_model.specs.Walk.{Onward, Ended, Dropped, Left, onward, after_jump, after_goto, over_rules, over_chain}
use Rattle.fx_model.specs.Policy.{MetRule, Answer, Silent, Passed, Allowed, Denied, answer_of, first_answer, Decision, passed_or_denied, after_policies, tiers_verdict, or_rest, profile_verdict, profiles_verdict, is_workload}
use Rattle.fx_model.specs.ViewPolicy.{met_view_rules, view_rule_matches, rules_of_policy, view_tier, missing_or_there, listed_of, view_listed, view_endpoint_verdict, HasFormedRules}
use Rattle.fx_walk.proofs.Walks.{walk_hit, walk-end}
use Rattle.fx_walk.proofs.Marks.{clear_same, clear_other, is_zero, is_not_zero}
use Rattle.fx_walk.proofs.Blocks.{only, noted_as, plain_hit, miss}
use Rattle.fx_walk.specs.Endings.{EndsAs}
use Rattle.fx_walk.proofs.Rules.{tagged_drop, return_hit, return_miss, formed_parts, each_formed, all_clear, profile_clear, rules_end}
use Rattle.fx_walk.proofs.Families.{found, RendersRules, RendersWays}
use Rattle.fx_walk.proofs.TreeWalks.{root_arrives, root_drops}

-- rules of profiles don't pass
never_passed : (sets : Sets) (a : Packet) (why : ℕ → Reason) (place : ℕ) (rs : List ViewRule) → list_all is_formed_view_profile_rule rs ≡ true → first_answer (met_view_rules sets a why place rs) ≡ Passed → ⊥
never_passed sets a why place [] formed h = cc
never_passed sets a why place (r ∷ rs) formed h =
    let split = both_pass (is_formed_view_profile_rule r) (list_all is_formed_view_profile_rule rs) formed in
    one (view_rule_matches sets r a) r.action (first_answer (met_view_rules sets a why (suc place) rs)) (formed_parts r split.0).1 (never_passed sets a why (suc place) rs split.1) h
  where
    act : (x : Action) (rest : Answer) → not (passes x) ≡ true → (rest ≡ Passed → ⊥) → answer_of x (why place) rest ≡ Passed → ⊥
    act action.Allow rest n f e = cc
    act action.Deny rest n f e = cc
    act action.Log rest n f e = f e
    act action.Pass rest n f e = cc

    one : (b : Bool) (x : Action) (rest : Answer) → not (passes x) ≡ true → (rest ≡ Passed → ⊥) → (elim b [ true ↦ answer_of x (why place) rest | false ↦ rest ]) ≡ Passed → ⊥
    one true x rest n f e = act x rest n f e
    one false x rest n f e = f e

-- what the walk of an endpoint's chain comes to
abbrev pub Concludes : Ended Reasons → Reasons → Verdict → Reason → Type 0
Concludes e s Allow why = (n : ℕ) × (e ≡ Left n (with_reason s.side why s))
Concludes e s Deny why = e ≡ Dropped (with_reason s.side why s)

abbrev pub ConcludesAs : Ended Reasons → Reasons → Decision → Type 0
ConcludesAs e s x = Concludes e s x.verdict x.why

pub concludes_from : (e f : Ended Reasons) (s : Reasons) (x : Decision) → e ≡ f → ConcludesAs f s x → ConcludesAs e s x
concludes_from e f s x q h = subst (λ y. ConcludesAs y s x) (sym q) h

-- a reason that was told over another one
retold : (side : Option Direction) (e i : Option Reason) (w why : Reason) → with_reason (with_reason side w (record { side = side; egress = e; ingress = i })).side why (with_reason side w (record { side = side; egress = e; ingress = i })) ≡ with_reason side why (record { side = side; egress = e; ingress = i })
retold None e i w why = refl
retold (Some Egress) e i w why = refl
retold (Some Ingress) e i w why = refl

concludes_retold : (e : Ended Reasons) (s : Reasons) (w : Reason) (x : Decision) → ConcludesAs e (with_reason s.side w s) x → ConcludesAs e s x
concludes_retold e s w x h = by_verdict x.verdict x.why h
  where
    by_verdict : (v : Verdict) (why : Reason) → Concludes e (with_reason s.side w s) v why → Concludes e s v why
    by_verdict Allow why k = (k.0, k.1 ∙ ap (λ t. Left k.0 t) (retold s.side s.egress s.ingress w why))
    by_verdict Deny why k = k ∙ ap Dropped (retold s.side s.egress s.ingress w why)

-- ---- rules one policy behind another

abbrev or_answer : Answer → Answer → Answer
or_answer Silent y = y
or_answer Passed y = Passed
or_answer (Allowed why) y = Allowed why
or_answer (Denied why) y = Denied why

first-append : (xs ys : List MetRule) → first_answer (xs ++ ys) ≡ or_answer (first_answer xs) (first_answer ys)
first-append [] ys = refl
first-append (x ∷ xs) ys = by_test x.matches x.action (first-append xs ys)
  where
    act : (k : Action) → first_answer (xs ++ ys) ≡ or_answer (first_answer xs) (first_answer ys) → answer_of k x.why (first_answer (xs ++ ys)) ≡ or_answer (answer_of k x.why (first_answer xs)) (first_answer ys)
    act action.Allow ih = refl
    act action.Deny ih = refl
    act action.Log ih = ih
    act action.Pass ih = refl

    by_test : (b : Bool) (k : Action) → first_answer (xs ++ ys) ≡ or_answer (first_answer xs) (first_answer ys) → (elim b [ true ↦ answer_of k x.why (first_answer (xs ++ ys)) | false ↦ first_answer (xs ++ ys) ]) ≡ or_answer (elim b [ true ↦ answer_of k x.why (first_answer xs) | false ↦ first_answer xs ]) (first_answer ys)
    by_test true k ih = act k ih
    by_test false k ih = ih

module _ (a : Packet) (v : View) (chains : Chains) (given : RendersRules v chains) (formed : HasFormedRules v) where
  abbrev pub call : ℕ → ChainName → Onward Reasons
  call n = over_chain last_reason (holds v.sets a) chains n

  pub called : (n : ℕ) (c : ChainName) (rs : List ChainRule) (m : ℕ) (s : Reasons) → rules_in chains c ≡ rs → call (suc n) c m s ≡ over_rules last_reason (holds v.sets a) (call n) c 1 rs m s
  unfolding over_chain over_rules
  called n c rs m s e = ap (λ x. over_rules last_reason (holds v.sets a) (call n) c 1 x m s) e

  policy_inner : (d : Direction) (key : List ℕ) → bytes_eq (policy_chain d key) forward ≡ false
  policy_inner Ingress key = refl
  policy_inner Egress key = refl

  profile_inner : (d : Direction) (key : List ℕ) → bytes_eq (profile_chain d key) forward ≡ false
  profile_inner Ingress key = refl
  profile_inner Egress key = refl

  endpoint_inner : (d : Direction) (iface : List ℕ) → bytes_eq (endpoint_chain d iface) forward ≡ false
  endpoint_inner Ingress iface = refl
  endpoint_inner Egress iface = refl

  abbrev back : ChainRule
  back = plain (is_set accept_mark ∷ []) target.Return

  -- ---- an endpoint's chain
  module _ (n : ℕ) (c : ChainName) (inner : bytes_eq c forward ≡ false) where
    -- the rules of the chain from here on, each jump going one chain deeper
    abbrev pub walk : ℕ → List ChainRule → ℕ → Reasons → Ended Reasons
    walk p rs m s = over_rules last_reason (holds v.sets a) (call (suc n)) c p rs m s

    -- these rules conclude so, wherever the accept bit is clear
    abbrev Concluding : List ChainRule → Decision → Type 0
    Concluding rs x = (p m : ℕ) (s : Reasons) → bit_at m 16 ≡ 0 → ConcludesAs (walk p rs m s) s x

    abbrev back_after : ℕ → List ChainRule → Ended Reasons → Ended Reasons
    back_after p rs e = onward (after_jump e) (over_rules last_reason (holds v.sets a) (call (suc n)) c p (back ∷ rs))

    -- after a profile's chain
    after_profile : (p : ℕ) (rs : List ChainRule) (e : Ended Reasons) (m : ℕ) (s : Reasons) (ans : Answer) (rest : Decision) → (ans ≡ Passed → ⊥) → bit_at m 16 ≡ 0 → EndsAs e m s ans → Concluding rs rest → ConcludesAs (back_after p rs e) s (or_rest ans rest)
    after_profile p rs e m s Silent rest np z h after =
        concludes_from _ _ s rest (ap (back_after p rs) h.1 ∙ return_miss v.sets a (call (suc n)) c inner p rs h.0 s (h.2.accept ∙ z)) (after (suc p) h.0 s (h.2.accept ∙ z))
    after_profile p rs e m s (Allowed why) rest np z h after = (h.0, ap (back_after p rs) h.1 ∙ return_hit v.sets a (call (suc n)) c inner p rs h.0 (with_reason s.side why s) h.2)
    after_profile p rs e m s (Denied why) rest np z h after = ap (back_after p rs) h
    after_profile p rs e m s Passed rest np z h after = absurd (np refl)

    -- one profile, in the view or not, and the rest
    one_profile : (p : ℕ) (d : Direction) (key : List ℕ) (rs : List ChainRule) (m : ℕ) (s : Reasons) (rest : Decision) → bit_at m 16 ≡ 0 → Concluding rs rest → (o : Option ViewProfile) → maps.get v.profiles key ≡ o → rules_in chains (profile_chain d key) ≡ found (profile_rules d) o → ConcludesAs (back_after p rs (call (suc n) (profile_chain d key) m s)) s (profile_verdict (listed_of v.sets d a o) rest)
    one_profile p d key rs m s rest z after None at is =
        after_profile p rs (call (suc n) (profile_chain d key) m s) m s Silent rest (λ e. cc) z
        (m, called n (profile_chain d key) [] m s is ∙ walk-end last_reason (holds v.sets a) (call n) (profile_chain d key) 1 m s, record { accept = refl; pass = refl }) after
    one_profile p d key rs m s rest z after (Some pr) at is = by_missing pr.missing is
      where
        there : list_all is_formed_view_profile_rule (profile_side d pr) ≡ true
        there = formed.profiles d key pr at

        by_missing : (b : Bool) → rules_in chains (profile_chain d key) ≡ present_or_missing b pr.name (rendered_rules (reason.Profile pr.name) 1 (profile_side d pr)) → ConcludesAs (back_after p rs (call (suc n) (profile_chain d key) m s)) s (profile_verdict (missing_or_there b pr.name (met_view_rules v.sets a (reason.Profile pr.name) 1 (profile_side d pr))) rest)
        by_missing true is =
            ap (back_after p rs) (called n (profile_chain d key) (tagged [] target.Drop (reason.MissingProfile pr.name) ∷ []) m s is ∙ tagged_drop v.sets a (call n) (profile_chain d key) (profile_inner d key) 1 [] (reason.MissingProfile pr.name) [] m s refl)
        by_missing false is =
            after_profile p rs (call (suc n) (profile_chain d key) m s) m s (first_answer (met_view_rules v.sets a (reason.Profile pr.name) 1 (profile_side d pr))) rest (never_passed v.sets a (reason.Profile pr.name) 1 (profile_side d pr) there) z
            (subst (λ x. EndsAs x m s (first_answer (met_view_rules v.sets a (reason.Profile pr.name) 1 (profile_side d pr)))) (sym (called n (profile_chain d key) _ m s is))
            (rules_end v.sets a (call n) (profile_chain d key) (profile_inner d key) (reason.Profile pr.name) 1 (profile_side d pr) 1 m s (each_formed (profile_side d pr) there) z (profile_clear (profile_side d pr) m there))) after

    -- a rule that jumps, where its matches hold
    jump_hit : (p : ℕ) (ms : List Match) (to : ChainName) (rs : List ChainRule) (m : ℕ) (s : Reasons) → hold_all (holds v.sets a) m ms ≡ true → walk p (plain ms (target.Jump to) ∷ rs) m s ≡ onward (after_jump (call (suc n) to m s)) (over_rules last_reason (holds v.sets a) (call (suc n)) c (suc p) rs)
    jump_hit p ms to rs m s h =
        walk_hit last_reason (holds v.sets a) (call (suc n)) c p (plain ms (target.Jump to)) rs m s h
        ∙ ap (λ t. onward (after_jump (call (suc n) to m t)) (over_rules last_reason (holds v.sets a) (call (suc n)) c (suc p) rs)) (noted_as v.sets a (call (suc n)) c inner p (plain ms (target.Jump to)) s)

    -- the profiles in their order, and the end
    profiles_end : (d : Direction) (keys : List (List ℕ)) → Concluding (profile_jumps d keys) (profiles_verdict (map (view_listed v d a) keys))
    profiles_end d [] p m s z = tagged_drop v.sets a (call (suc n)) c inner p [] reason.NoProfileRule [] m s refl
    profiles_end d (key ∷ keys) p m s z =
        concludes_from _ _ s _ (jump_hit p [] (profile_chain d key) (back ∷ profile_jumps d keys) m s refl)
        (one_profile (suc p) d key (profile_jumps d keys) m s (profiles_verdict (map (view_listed v d a) keys)) z (profiles_end d keys) (maps.get v.profiles key) refl (given.at_profile d key))

    -- ---- tiers

    -- behind a Pass the rest of the tier's policies is gone over
    passed_over : (d : Direction) (keys : List (List ℕ)) (tail : List ChainRule) (p m : ℕ) (s : Reasons) → bit_at m 16 ≡ 0 → bit_at m 17 ≡ 1 → (q : ℕ) × (walk p (policy_jumps d keys ++ tail) m s ≡ walk q tail m s)
    passed_over d [] tail p m s z o = (p, refl)
    passed_over d (key ∷ keys) tail p m s z o =
        let y = passed_over d keys tail (suc (suc p)) m s z o in (
          y.0,
          miss v.sets a (call (suc n)) c inner p (plain (is_clear pass_mark ∷ []) (target.Jump (policy_chain d key))) (back ∷ (policy_jumps d keys ++ tail)) m s (only v.sets a m (is_clear pass_mark) false (is_not_zero v.sets a m 17 o))
              ∙ return_miss v.sets a (call (suc n)) c inner (suc p) (policy_jumps d keys ++ tail) m s z ∙ y.1,
        )

    -- what stands behind a tier's policies concludes so where none of them passed, and so where one did
    record IsTail (tail : List ChainRule) (end x : Decision) : Type 0 where
      silent : (p m : ℕ) (s : Reasons) → bit_at m 16 ≡ 0 → bit_at m 17 ≡ 0 → ConcludesAs (walk p tail m s) s end
      passed : (p m : ℕ) (s : Reasons) → bit_at m 16 ≡ 0 → bit_at m 17 ≡ 1 → ConcludesAs (walk p tail m s) s x

    -- after a policy's chain, in its tier
    after_policy : (d : Direction) (keys : List (List ℕ)) (tail : List ChainRule) (p : ℕ) (e : Ended Reasons) (m : ℕ) (s : Reasons) (end x : Decision) (ans more : Answer) → bit_at m 16 ≡ 0 → bit_at m 17 ≡ 0 → EndsAs e m s ans
        → ((k : ℕ) → bit_at k 16 ≡ 0 → bit_at k 17 ≡ 0 → ConcludesAs (walk (suc p) (policy_jumps d keys ++ tail) k s) s (after_policies more end x))
        → IsTail tail end x
        → ConcludesAs (back_after p (policy_jumps d keys ++ tail) e) s (after_policies (or_answer ans more) end x)
    after_policy d keys tail p e m s end x Silent more z y h next after =
        concludes_from _ _ s _ (ap (back_after p (policy_jumps d keys ++ tail)) h.1 ∙ return_miss v.sets a (call (suc n)) c inner p (policy_jumps d keys ++ tail) h.0 s (h.2.accept ∙ z))
        (next h.0 (h.2.accept ∙ z) (h.2.pass ∙ y))
    after_policy d keys tail p e m s end x (Allowed why) more z y h next after =
        (h.0, ap (back_after p (policy_jumps d keys ++ tail)) h.1 ∙ return_hit v.sets a (call (suc n)) c inner p (policy_jumps d keys ++ tail) h.0 (with_reason s.side why s) h.2)
    after_policy d keys tail p e m s end x (Denied why) more z y h next after =
        ap (back_after p (policy_jumps d keys ++ tail)) h
    after_policy d keys tail p e m s end x Passed more z y h next after =
        let over = passed_over d keys tail (suc p) h.0 (with_reason s.side h.1 s) h.3 h.4 in
        concludes_from _ _ s x (ap (back_after p (policy_jumps d keys ++ tail)) h.2 ∙ return_miss v.sets a (call (suc n)) c inner p (policy_jumps d keys ++ tail) h.0 (with_reason s.side h.1 s) h.3 ∙ over.1)
        (concludes_retold _ s h.1 x (after.passed over.0 h.0 (with_reason s.side h.1 s) h.3 h.4))

    -- what a policy's chain comes to, whether the policy is in the view or not
    policy_ends : (d : Direction) (key : List ℕ) (m : ℕ) (s : Reasons) → bit_at m 16 ≡ 0 → bit_at m 17 ≡ 0 → (o : Option ViewPolicy) → maps.get v.policies key ≡ o → rules_in chains (policy_chain d key) ≡ found (policy_rules d) o → EndsAs (call (suc n) (policy_chain d key) m s) m s (first_answer (rules_of_policy v.sets d a o))
    policy_ends d key m s z y None at is = (m, called n (policy_chain d key) [] m s is ∙ walk-end last_reason (holds v.sets a) (call n) (policy_chain d key) 1 m s, record { accept = refl; pass = refl })
    policy_ends d key m s z y (Some pr) at is =
        subst (λ x. EndsAs x m s (first_answer (met_view_rules v.sets a (reason.Policy pr.id) 1 (policy_side d pr)))) (sym (called n (policy_chain d key) _ m s is))
        (rules_end v.sets a (call n) (policy_chain d key) (policy_inner d key) (reason.Policy pr.id) 1 (policy_side d pr) 1 m s (formed.policies d key pr at) z (all_clear (policy_side d pr) m y))

    abbrev policies_met : Direction → List (List ℕ) → List MetRule
    policies_met d keys = flat_map (λ key. rules_of_policy v.sets d a (maps.get v.policies key)) keys

    -- the policies of a tier, and what stands behind them
    policies_end : (d : Direction) (keys : List (List ℕ)) (tail : List ChainRule) (p m : ℕ) (s : Reasons) (end x : Decision) → bit_at m 16 ≡ 0 → bit_at m 17 ≡ 0 → IsTail tail end x
        → ConcludesAs (walk p (policy_jumps d keys ++ tail) m s) s (after_policies (first_answer (policies_met d keys)) end x)
    policies_end d [] tail p m s end x z y after = after.silent p m s z y
    policies_end d (key ∷ keys) tail p m s end x z y after =
        concludes_from _ _ s _ (jump_hit p (is_clear pass_mark ∷ []) (policy_chain d key) (back ∷ (policy_jumps d keys ++ tail)) m s (only v.sets a m (is_clear pass_mark) true (is_zero v.sets a m 17 y)))
        (subst (λ ans. ConcludesAs (back_after (suc p) (policy_jumps d keys ++ tail) (call (suc n) (policy_chain d key) m s)) s (after_policies ans end x)) (sym (first-append (rules_of_policy v.sets d a (maps.get v.policies key)) (policies_met d keys)))
        (after_policy d keys tail (suc p) (call (suc n) (policy_chain d key) m s) m s end x (first_answer (rules_of_policy v.sets d a (maps.get v.policies key))) (first_answer (policies_met d keys)) z y
        (policy_ends d key m s z y (maps.get v.policies key) refl (given.at_policy d key))
        (λ k zk yk. policies_end d keys tail (suc (suc p)) k s end x zk yk after)
        after))

    -- the end of a tier drops where none passed, and where the tier passes at its end there is no rule
    tier_tail : (b : Bool) (name : List ℕ) (rest : List ChainRule) (x : Decision) → Concluding rest x → IsTail (pass_or_drop b name ++ rest) (passed_or_denied b name x) x
    tier_tail true name rest x after = record { silent = λ p m s z y. after p m s z; passed = λ p m s z o. after p m s z }
    tier_tail false name rest x after = record {
      silent = λ p m s z y. tagged_drop v.sets a (call (suc n)) c inner p (is_clear pass_mark ∷ []) (reason.EndOfTier name) rest m s (only v.sets a m (is_clear pass_mark) true (is_zero v.sets a m 17 y));
      passed = λ p m s z o.
          concludes_from _ _ s x
          (miss v.sets a (call (suc n)) c inner p (tagged (is_clear pass_mark ∷ []) target.Drop (reason.EndOfTier name)) rest m s (only v.sets a m (is_clear pass_mark) false (is_not_zero v.sets a m 17 o)))
          (after (suc p) m s z);
    }

    tiers_end : (d : Direction) (ts : List ViewTier) (rest : List ChainRule) (x : Decision) → Concluding rest x → Concluding (tier_rules d ts rest) (tiers_verdict (map (view_tier v d a) ts) x)
    tiers_end d [] rest x after p m s z = after p m s z
    tiers_end d (t ∷ ts) rest x after p m s z =
        let later = tiers_verdict (map (view_tier v d a) ts) x in
        concludes_from _ _ s _ (plain_hit v.sets a (call (suc n)) c inner p [] 0 pass_mark (policy_jumps d t.policies ++ (tier_end t ++ tier_rules d ts rest)) m s refl)
        (policies_end d t.policies (tier_end t ++ tier_rules d ts rest) (suc p) (marked m 0 pass_mark) s (passed_or_denied t.pass_at_end t.name later) later
        (clear_other m 17 16 (lit< tt) (lit< tt) (omega arith) ∙ z) (clear_same m 17 (lit< tt))
        (tier_tail t.pass_at_end t.name (tier_rules d ts rest) later (tiers_end d ts rest x after)))

    -- the tiers and the profiles of an endpoint, from where its chain clears the accept bit
    pub sides_end : (d : Direction) (e : ViewEndpoint) (p m : ℕ) (s : Reasons) → ConcludesAs (walk p (plain [] (clear_mark accept_mark) ∷ tier_rules d (tiers_side d e) (profile_jumps d e.profiles)) m s) s (view_endpoint_verdict v d e a)
    sides_end d e p m s =
        concludes_from _ _ s _ (plain_hit v.sets a (call (suc n)) c inner p [] 0 accept_mark (tier_rules d (tiers_side d e) (profile_jumps d e.profiles)) m s refl)
        (tiers_end d (tiers_side d e) (profile_jumps d e.profiles) (profiles_verdict (map (view_listed v d a) e.profiles)) (profiles_end d e.profiles) (suc p) (marked m 0 accept_mark) s (clear_same m 16 (lit< tt)))

  pub state_misses : (b : Bool) (m : ℕ) → a.state ≡ New → hold_all (holds v.sets a) m (match.State b ∷ []) ≡ false
  unfolding holds
  state_misses true m h = only v.sets a m (match.State true) false (ap (state_in true) h)
  state_misses false m h = only v.sets a m (match.State false) false (ap (state_in false) h)

  pub workload_met : (m : ℕ) (end : End) (b : Bool) → is_workload (iface_at end a) ≡ b → hold_all (holds v.sets a) m (match.Iface end (codes "cali") true ∷ []) ≡ b
  unfolding holds
  workload_met m end b h = only v.sets a m (match.Iface end (codes "cali") true) b h

  pub goto_concludes : (x : Ended Reasons) (s : Reasons) (y : Decision) → ConcludesAs x s y → ConcludesAs (after_goto x) s y
  goto_concludes x s y h = by_verdict y.verdict y.why h
    where
      by_verdict : (w : Verdict) (why : Reason) → Concludes x s w why → Concludes (after_goto x) s w why
      by_verdict Allow why k = (k.0, ap after_goto k.1)
      by_verdict Deny why k = ap after_goto k

  any_same : (q : List ℕ) (ks : List (List ℕ)) → list_any (bytes_eq q) ks ≡ list_any (eq_by_cmp (slice_cmp nat_cmp) q) ks
  any_same q [] = refl
  any_same q (k ∷ ks) = ap (λ b. b || list_any (bytes_eq q) ks) (texts_ties q k) ∙ ap (λ b. eq_by_cmp (slice_cmp nat_cmp) q k || b) (any_same q ks)

  -- the tree has the interfaces of the view
  listed_there : (q : List ℕ) → list_any (bytes_eq q) (maps.keys v.endpoints) ≡ is_some (maps.get v.endpoints q)
  listed_there q = any_same q (maps.keys v.endpoints) ∙ sym (maps.contains_key-keys v.endpoints q)

  -- what is decided at a root, where the interface is an endpoint's or unknown
  abbrev pub root_decision : Direction → Option ViewEndpoint → Decision
  root_decision d None = record { verdict = Deny; why = reason.UnknownInterface }
  root_decision d (Some e) = view_endpoint_verdict v d e a

  module _ (ways : RendersWays v chains) where
    -- an endpoint's chain, for a packet in state NEW
    endpoint_ends : (n : ℕ) (d : Direction) (iface : List ℕ) (e : ViewEndpoint) → maps.get v.endpoints iface ≡ Some e → a.state ≡ New → (m : ℕ) (s : Reasons) → ConcludesAs (call (suc (suc n)) (endpoint_chain d iface) m s) s (view_endpoint_verdict v d e a)
    endpoint_ends n d iface e there new m s =
        concludes_from _ _ s _
        (called (suc n) c (endpoint_rules d e) m s (ways.at_endpoint d iface e there)
        ∙ miss v.sets a (call (suc n)) c inner 1 (tagged (match.State true ∷ []) target.Accept reason.Established) _ m s (state_misses true m new)
        ∙ miss v.sets a (call (suc n)) c inner 2 (tagged (match.State false ∷ []) target.Drop reason.Invalid) _ m s (state_misses false m new))
        (sides_end n c inner d e 3 m s)
      where
        c : ChainName
        c = endpoint_chain d iface

        inner : bytes_eq (endpoint_chain d iface) forward ≡ false
        inner = endpoint_inner d iface

    -- ---- the roots

    there_or_not : (d : Direction) (o : Option ViewEndpoint) → maps.get v.endpoints (iface_at (end_of d) a) ≡ o → list_any (bytes_eq (iface_at (end_of d) a)) (maps.keys v.endpoints) ≡ is_some o
    there_or_not d o e = listed_there (iface_at (end_of d) a) ∙ ap is_some e

    -- a root is two chains above its endpoints' chains, or one
    pub root_ends : (n : ℕ) (d : Direction) → a.state ≡ New → (m : ℕ) (s : Reasons) (o : Option ViewEndpoint) → maps.get v.endpoints (iface_at (end_of d) a) ≡ o → ConcludesAs (call (suc (suc (suc (suc n)))) (root_of d) m s) s (root_decision d o)
    root_ends n d new m s None e = root_drops v.sets a chains d (maps.keys v.endpoints) ways.tree (suc (suc n)) m s (there_or_not d None e)
    root_ends n d new m s (Some x) e =
        let arrived = root_arrives v.sets a chains d (maps.keys v.endpoints) ways.tree (suc (suc n)) m s (there_or_not d (Some x) e) in
        concludes_from _ _ s _ arrived.2 (goto_concludes _ s _ (at_endpoint arrived.0 arrived.1))
      where
        at_endpoint : (k : ℕ) → (k ≡ suc (suc n)) ⊎ (k ≡ suc (suc (suc n))) → ConcludesAs (call k (endpoint_chain d (iface_at (end_of d) a)) m s) s (view_endpoint_verdict v d x a)
        at_endpoint k (inl h) = subst (λ j. ConcludesAs (call j (endpoint_chain d (iface_at (end_of d) a)) m s) s (view_endpoint_verdict v d x a)) (sym h) (endpoint_ends n d (iface_at (end_of d) a) x e new m s)
        at_endpoint k (inr h) = subst (λ j. ConcludesAs (call j (endpoint_chain d (iface_at (end_of d) a)) m s) s (view_endpoint_verdict v d x a)) (sym h) (endpoint_ends (suc n) d (iface_at (end_of d) a) x e new m s)
