-- What each note keeps true, a walk keeps true, where it comes to such chains alone.
use Rattle.std.proofs.Common.{◌≡◌, ℕ, zero, suc, Bool, true, false, List, [], ◌∷◌, refl, sym, subst, arith}
use Rattle.fx_model.specs.declared.chain.Target.{Target}
use Rattle.fx_model.specs.declared.chain.Target.TheVariants as target
use Rattle.fx_model.specs.declared.chain.ChainRule.{ChainRule}
use Rattle.fx_model.specs.Tables.{ChainName, Chains}
use Rattle.fx_model.specs.Ranks.{LeadsBelow, AllLeadBelow, IsRanked, rank_of}
use Rattle.fx_model.specs.Machine.{Test, Notes, hold_all, rules_in}
use Rattle.fx_model.specs.Walk.{Onward, Ended, Accepted, Dropped, Left, Through, noted_in, onward, obeyed, over_rule, over_rules, over_chain, after_jump, after_goto}
use Rattle.fx_walk.proofs.Walks.{rule_hit, rule_miss, low_rules}

-- the notes of this chain's rules keep it
abbrev pub Keeps : {S : Type 0} → Notes S → (S → Type 0) → ChainName → Type 0
Keeps {S} note P c = (p : ℕ) (r : ChainRule) (s : S) → P s → P (note c p r s)

module _ {S : Type 0} (note : Notes S) (P : S → Type 0) (test : Test) where
  abbrev KeptIn : Ended S → Type 0
  KeptIn e = P (noted_in e)

  jump_kept : (e : Ended S) → KeptIn e → KeptIn (after_jump e)
  jump_kept (Accepted s) h = h
  jump_kept (Dropped s) h = h
  jump_kept (Left m s) h = h
  jump_kept (Through m s) h = h

  goto_kept : (e : Ended S) → KeptIn e → KeptIn (after_goto e)
  goto_kept (Accepted s) h = h
  goto_kept (Dropped s) h = h
  goto_kept (Left m s) h = h
  goto_kept (Through m s) h = h

  onward_kept : (e : Ended S) (go : Onward S) → KeptIn e → ((m : ℕ) (s : S) → P s → KeptIn (go m s)) → KeptIn (onward e go)
  onward_kept (Accepted s) go h next = h
  onward_kept (Dropped s) go h next = h
  onward_kept (Left m s) go h next = h
  onward_kept (Through m s) go h next = next m s h

  abbrev CallKeeps : Onward S → Type 0
  CallKeeps go = (m : ℕ) (s : S) → P s → KeptIn (go m s)

  module _ (call : ChainName → Onward S) where
    -- the walk of the chain that a rule leads to keeps it
    abbrev pub TargetKeeps : Target → Type 0
    TargetKeeps target.Accept = Unit {0}
    TargetKeeps target.Drop = Unit {0}
    TargetKeeps target.Return = Unit {0}
    TargetKeeps (target.Jump d) = CallKeeps (call d)
    TargetKeeps (target.Goto d) = CallKeeps (call d)
    TargetKeeps (target.Mark value mask) = Unit {0}
    TargetKeeps target.Log = Unit {0}

    abbrev pub AllKeep : List ChainRule → Type 0
    AllKeep [] = Unit {0}
    AllKeep (r ∷ rs) = TargetKeeps r.target × AllKeep rs

    obeyed_kept : (to : Target) → TargetKeeps to → CallKeeps (obeyed call to)
    obeyed_kept target.Accept k m s h = h
    obeyed_kept target.Drop k m s h = h
    obeyed_kept target.Return k m s h = h
    obeyed_kept (target.Jump d) k m s h = jump_kept (call d m s) (k m s h)
    obeyed_kept (target.Goto d) k m s h = goto_kept (call d m s) (k m s h)
    obeyed_kept (target.Mark value mask) k m s h = h
    obeyed_kept target.Log k m s h = h

    rule_kept : (c : ChainName) → Keeps note P c → (p : ℕ) (r : ChainRule) → TargetKeeps r.target → CallKeeps (over_rule note test call c p r)
    rule_kept c keeps p r k m s h = by_test (hold_all test m r.matches) refl
      where
        by_test : (b : Bool) → hold_all test m r.matches ≡ b → KeptIn (over_rule note test call c p r m s)
        by_test true e = subst KeptIn (sym (rule_hit note test call c p r m s e)) (obeyed_kept r.target k m (note c p r s) (keeps p r s h))
        by_test false e = subst KeptIn (sym (rule_miss note test call c p r m s e)) h

    pub rules_kept : (c : ChainName) → Keeps note P c → (p : ℕ) (rs : List ChainRule) → AllKeep rs → CallKeeps (over_rules note test call c p rs)
    unfolding over_rules
    rules_kept c keeps p [] k m s h = h
    rules_kept c keeps p (r ∷ rs) k m s h =
        onward_kept (over_rule note test call c p r m s) (over_rules note test call c (suc p) rs) (rule_kept c keeps p r k.0 m s h)
        (λ n t g. rules_kept c keeps (suc p) rs k.1 n t g)

    -- rules that lead nowhere
    low_keeps : (to : Target) → LeadsBelow 0 to → TargetKeeps to
    low_keeps target.Accept low = tt
    low_keeps target.Drop low = tt
    low_keeps target.Return low = tt
    low_keeps (target.Jump d) low = absurd (omega arith)
    low_keeps (target.Goto d) low = absurd (omega arith)
    low_keeps (target.Mark value mask) low = tt
    low_keeps target.Log low = tt

    all_low : (rs : List ChainRule) → AllLeadBelow 0 rs → AllKeep rs
    all_low [] low = tt
    all_low (r ∷ rs) low = (low_keeps r.target low.0, all_low rs low.1)

  -- a chain whose rules lead nowhere
  pub chain_kept : (chains : Chains) → IsRanked chains → (n : ℕ) (c : ChainName) → rank_of c ≡ 0 → Keeps note P c → CallKeeps (over_chain note test chains n c)
  unfolding over_chain
  chain_kept chains ranked zero c rank keeps m s h = h
  chain_kept chains ranked (suc n) c rank keeps m s h =
      rules_kept (over_chain note test chains n) c keeps 1 (rules_in chains c)
      (all_low (over_chain note test chains n) (rules_in chains c) (subst (λ k. AllLeadBelow k (rules_in chains c)) rank (low_rules note test chains ranked c)))
      m s h
