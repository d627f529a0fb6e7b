-- Two walks that note different things of the same rules.
use Rattle.std.proofs.Common.{◌≡◌, ℕ, zero, suc, Bool, true, false, List, [], ◌∷◌, refl, sym, ap, ◌∙◌}
use Rattle.fx_model.specs.declared.chain.Target.{Target}
use Rattle.fx_model.specs.declared.chain.Target.TheVariants as target
use Rattle.fx_model.specs.declared.chain.ChainRule.{ChainRule}
use Rattle.fx_model.specs.Tables.{ChainName, Chains}
use Rattle.fx_model.specs.Machine.{Test, Notes, Trace, last_reason, hops_and_reasons, hold_all, rules_in}
use Rattle.fx_model.specs.Walk.{Onward, Ended, Accepted, Dropped, Left, Through, verdict_of, noted_in, onward, obeyed, after_jump, after_goto, over_rule, over_rules, over_chain}
use Rattle.fx_walk.proofs.Walks.{rule_hit, rule_miss}

abbrev pub seen_by : {S T : Type 0} → (S → T) → Ended S → Ended T
seen_by f (Accepted s) = Accepted (f s)
seen_by f (Dropped s) = Dropped (f s)
seen_by f (Left m s) = Left m (f s)
seen_by f (Through m s) = Through m (f s)

module _ {S T : Type 0} (f : S → T) where
  pub verdict-seen : (e : Ended S) → verdict_of (seen_by f e) ≡ verdict_of e
  verdict-seen (Accepted s) = refl
  verdict-seen (Dropped s) = refl
  verdict-seen (Left m s) = refl
  verdict-seen (Through m s) = refl

  pub noted-seen : (e : Ended S) → noted_in (seen_by f e) ≡ f (noted_in e)
  noted-seen (Accepted s) = refl
  noted-seen (Dropped s) = refl
  noted-seen (Left m s) = refl
  noted-seen (Through m s) = refl

module _ {S T : Type 0} (f : S → T) (note : Notes S) (note' : Notes T) (agree : (c : ChainName) (p : ℕ) (r : ChainRule) (s : S) → f (note c p r s) ≡ note' c p r (f s)) (a : Test) where
  jump-seen : (x : Ended S) → seen_by f (after_jump x) ≡ after_jump (seen_by f x)
  jump-seen (Accepted s) = refl
  jump-seen (Dropped s) = refl
  jump-seen (Left m s) = refl
  jump-seen (Through m s) = refl

  goto-seen : (x : Ended S) → seen_by f (after_goto x) ≡ after_goto (seen_by f x)
  goto-seen (Accepted s) = refl
  goto-seen (Dropped s) = refl
  goto-seen (Left m s) = refl
  goto-seen (Through m s) = refl

  onward-seen : (x : Ended S) (go : Onward S) (go' : Onward T) → ((m : ℕ) (s : S) → seen_by f (go m s) ≡ go' m (f s)) → seen_by f (onward x go) ≡ onward (seen_by f x) go'
  onward-seen (Accepted s) go go' h = refl
  onward-seen (Dropped s) go go' h = refl
  onward-seen (Left m s) go go' h = refl
  onward-seen (Through m s) go go' h = h m s

  obeyed-seen : (call : ChainName → Onward S) (call' : ChainName → Onward T) → ((c : ChainName) (m : ℕ) (s : S) → seen_by f (call c m s) ≡ call' c m (f s)) → (to : Target) (m : ℕ) (s : S) → seen_by f (obeyed call to m s) ≡ obeyed call' to m (f s)
  obeyed-seen call call' h target.Accept m s = refl
  obeyed-seen call call' h target.Drop m s = refl
  obeyed-seen call call' h target.Return m s = refl
  obeyed-seen call call' h (target.Jump c) m s = jump-seen (call c m s) ∙ ap after_jump (h c m s)
  obeyed-seen call call' h (target.Goto c) m s = goto-seen (call c m s) ∙ ap after_goto (h c m s)
  obeyed-seen call call' h (target.Mark v k) m s = refl
  obeyed-seen call call' h target.Log m s = refl

  rule-seen : (call : ChainName → Onward S) (call' : ChainName → Onward T) → ((c : ChainName) (m : ℕ) (s : S) → seen_by f (call c m s) ≡ call' c m (f s)) → (c : ChainName) (p : ℕ) (r : ChainRule) (m : ℕ) (s : S) → seen_by f (over_rule note a call c p r m s) ≡ over_rule note' a call' c p r m (f s)
  rule-seen call call' h c p r m s = by_test (hold_all a m r.matches) refl
    where
      by_test : (b : Bool) → hold_all a m r.matches ≡ b → seen_by f (over_rule note a call c p r m s) ≡ over_rule note' a call' c p r m (f s)
      by_test true e = ap (seen_by f) (rule_hit note a call c p r m s e) ∙ obeyed-seen call call' h r.target m (note c p r s) ∙ ap (obeyed call' r.target m) (agree c p r s) ∙ sym (rule_hit note' a call' c p r m (f s) e)
      by_test false e = ap (seen_by f) (rule_miss note a call c p r m s e) ∙ sym (rule_miss note' a call' c p r m (f s) e)

  pub rules-seen : (call : ChainName → Onward S) (call' : ChainName → Onward T) → ((c : ChainName) (m : ℕ) (s : S) → seen_by f (call c m s) ≡ call' c m (f s)) → (c : ChainName) (p : ℕ) (rs : List ChainRule) (m : ℕ) (s : S) → seen_by f (over_rules note a call c p rs m s) ≡ over_rules note' a call' c p rs m (f s)
  unfolding over_rules
  rules-seen call call' h c p [] m s = refl
  rules-seen call call' h c p (r ∷ rs) m s =
      onward-seen (over_rule note a call c p r m s) _ (over_rules note' a call' c (suc p) rs) (λ n t. rules-seen call call' h c (suc p) rs n t)
      ∙ ap (λ x. onward x (over_rules note' a call' c (suc p) rs)) (rule-seen call call' h c p r m s)

  pub chain-seen : (chains : Chains) (n : ℕ) (c : ChainName) (m : ℕ) (s : S) → seen_by f (over_chain note a chains n c m s) ≡ over_chain note' a chains n c m (f s)
  unfolding over_chain
  chain-seen chains zero c m s = refl
  chain-seen chains (suc n) c m s = rules-seen (over_chain note a chains n) (over_chain note' a chains n) (chain-seen chains n) c 1 (rules_in chains c) m s

-- a traced walk keeps the reasons that a plain walk keeps
pub traced_reasons : (a : Test) (chains : Chains) (n : ℕ) (c : ChainName) (m : ℕ) (t : Trace) → seen_by (λ (t : Trace). t.reasons) (over_chain hops_and_reasons a chains n c m t) ≡ over_chain last_reason a chains n c m t.reasons
unfolding hops_and_reasons
traced_reasons a chains n c m t = chain-seen (λ (t : Trace). t.reasons) hops_and_reasons last_reason (λ c p r s. refl) a chains n c m t
