-- What a walk notes follows on what was noted before it, and a walk that breaks off has noted a first part of it.
use Rattle.std.proofs.Common.{◌≡◌, ℕ, zero, suc, Bool, true, false, List, [], ◌∷◌, ◌++◌, if◌then◌else◌, refl, sym, ap, ◌∙◌, append_assoc, subst}
use Rattle.std.specs.Prelude.{Result, Ok, Err, IfOk, OnErr}
use Rattle.std.proofs.lemmas.List.{append-nil}
use Rattle.fx_model.specs.declared.chain.Target.{Target}
use Rattle.fx_model.specs.declared.chain.Target.TheVariants as target
use Rattle.fx_model.specs.declared.chain.ChainRule.{ChainRule}
use Rattle.fx_model.specs.Tables.{ChainName, Chains}
use Rattle.fx_model.specs.Machine.{Notes, Reasons, Test, Trace, hops_and_reasons, is_shown, hold_all, rules_in}
use Rattle.fx_model.specs.Walk.{Onward, Ended, Accepted, Dropped, Left, Through, noted_in, onward, obeyed, after_jump, after_goto, over_rule, over_rules, over_chain}
use Rattle.fx_walk.specs.WalkEnds.{Follows, here, behind, BreaksOff}
use Rattle.fx_walk.proofs.Walks.{rule_hit, rule_miss}

module _ {S : Type 0} (note : Notes S) where
  pub follows_on : {s t u : S} → Follows S note s t → Follows S note t u → Follows S note s u
  follows_on {s} f (here e) = subst (λ (x : S). Follows S note s x) e f
  follows_on f (behind c p r g e) = behind c p r (follows_on f g) e

  jump_noted : (x : Ended S) → noted_in (after_jump x) ≡ noted_in x
  jump_noted (Accepted s) = refl
  jump_noted (Dropped s) = refl
  jump_noted (Left m s) = refl
  jump_noted (Through m s) = refl

  goto_noted : (x : Ended S) → noted_in (after_goto x) ≡ noted_in x
  goto_noted (Accepted s) = refl
  goto_noted (Dropped s) = refl
  goto_noted (Left m s) = refl
  goto_noted (Through m s) = refl

  abbrev Grows : Onward S → Type 0
  Grows go = (m : ℕ) (s : S) → Follows S note s (noted_in (go m s))

  onward_follows : (x : Ended S) (go : Onward S) → Grows go → Follows S note (noted_in x) (noted_in (onward x go))
  onward_follows (Accepted s) go h = here refl
  onward_follows (Dropped s) go h = here refl
  onward_follows (Left m s) go h = here refl
  onward_follows (Through m s) go h = h m s

  obeyed_grows : (call : ChainName → Onward S) → ((c : ChainName) → Grows (call c)) → (to : Target) → Grows (obeyed call to)
  obeyed_grows call h target.Accept m s = here refl
  obeyed_grows call h target.Drop m s = here refl
  obeyed_grows call h target.Return m s = here refl
  obeyed_grows call h (target.Jump c) m s = subst (λ (t : S). Follows S note s t) (sym (jump_noted (call c m s))) (h c m s)
  obeyed_grows call h (target.Goto c) m s = subst (λ (t : S). Follows S note s t) (sym (goto_noted (call c m s))) (h c m s)
  obeyed_grows call h (target.Mark v k) m s = here refl
  obeyed_grows call h target.Log m s = here refl

  module _ (test : Test) where
    rule_grows : (call : ChainName → Onward S) → ((c : ChainName) → Grows (call c)) → (c : ChainName) (p : ℕ) (r : ChainRule) → Grows (over_rule note test call c p r)
    rule_grows call h c p r m s = by_test (hold_all test m r.matches) refl
      where
        by_test : (b : Bool) → hold_all test m r.matches ≡ b → Follows S note s (noted_in (over_rule note test call c p r m s))
        by_test true e =
            subst (λ (x : Ended S). Follows S note s (noted_in x)) (sym (rule_hit note test call c p r m s e))
            (follows_on (behind c p r (here refl) refl) (obeyed_grows call h r.target m (note c p r s)))
        by_test false e = here (sym (ap noted_in (rule_miss note test call c p r m s e)))

    rules_grow : (call : ChainName → Onward S) → ((c : ChainName) → Grows (call c)) → (c : ChainName) (p : ℕ) (rs : List ChainRule) → Grows (over_rules note test call c p rs)
    unfolding over_rules
    rules_grow call h c p [] m s = here refl
    rules_grow call h c p (r ∷ rs) m s =
        follows_on (rule_grows call h c p r m s) (onward_follows (over_rule note test call c p r m s) (over_rules note test call c (suc p) rs) (rules_grow call h c (suc p) rs))

    pub chain_grows : (chains : Chains) (n : ℕ) (c : ChainName) → Grows (over_chain note test chains n c)
    unfolding over_chain
    chain_grows chains zero c m s = here refl
    chain_grows chains (suc n) c m s = rules_grow (over_chain note test chains n) (chain_grows chains n) c 1 (rules_in chains c) m s

    -- a rule at which the walk broke off, before anything of it was noted
    pub breaks_before : (f : Reasons → S) (chains : Chains) (n : ℕ) (c : ChainName) (p : ℕ) (r : ChainRule) (m : ℕ) (s : S) (why : Reasons) → f why ≡ s → BreaksOff S note f s (over_rule note test (over_chain note test chains n) c p r m s)
    breaks_before f chains n c p r m s why e = record {
      reasons = why;
      begun = here (sym e);
      rest = follows_on (here e) (rule_grows (over_chain note test chains n) (chain_grows chains n) c p r m s);
    }

    -- a walk that broke off within a rule, where other rules follow
    pub breaks_within : (f : Reasons → S) (chains : Chains) (n : ℕ) (c : ChainName) (p : ℕ) (rs : List ChainRule) (x whole : Ended S) (first before : S) → Follows S note first before → whole ≡ onward x (over_rules note test (over_chain note test chains n) c p rs) → BreaksOff S note f before x → BreaksOff S note f first whole
    breaks_within f chains n c p rs x whole first before from e h = record {
      reasons = h.reasons;
      begun = follows_on from h.begun;
      rest = follows_on h.rest (follows_on (onward_follows x (over_rules note test (over_chain note test chains n) c p rs) (rules_grow (over_chain note test chains n) (chain_grows chains n) c p rs)) (here (sym (ap noted_in e))));
    }

    -- what a rule's walk notes
    pub step_follows : (chains : Chains) (n : ℕ) (c : ChainName) (p : ℕ) (r : ChainRule) (m : ℕ) (s first : S) (x : Ended S) → x ≡ over_rule note test (over_chain note test chains n) c p r m s → Follows S note first s → Follows S note first (noted_in x)
    step_follows chains n c p r m s first x e from =
        follows_on from (follows_on (rule_grows (over_chain note test chains n) (chain_grows chains n) c p r m s) (here (sym (ap noted_in e))))

    -- a walk that broke off behind a rule that matched
    pub breaks_hit : (f : Reasons → S) (call : ChainName → Onward S) (c : ChainName) (p : ℕ) (r : ChainRule) (m k : ℕ) (s u : S) → hold_all test m r.matches ≡ true → k ≡ m → u ≡ note c p r s → BreaksOff S note f u (obeyed call r.target k u) → BreaksOff S note f s (over_rule note test call c p r m s)
    breaks_hit f call c p r m k s u holds same is h =
        let at : BreaksOff S note f (note c p r s) (obeyed call r.target m (note c p r s)) = subst (λ (x : S). BreaksOff S note f x (obeyed call r.target m x)) is (subst (λ (n : ℕ). BreaksOff S note f u (obeyed call r.target n u)) same h) in
        record {
          reasons = at.reasons;
          begun = follows_on (behind c p r (here refl) refl) at.begun;
          rest = follows_on at.rest (here (sym (ap noted_in (rule_hit note test call c p r m s holds))));
        }

-- ---- paths

abbrev pub Extends : List (ChainName × ℕ) → List (ChainName × ℕ) → Type 0
Extends xs ys = (rest : List (ChainName × ℕ)) × (ys ≡ xs ++ rest)

note_extends : (c : ChainName) (p : ℕ) (r : ChainRule) (t : Trace) → Extends t.hops (hops_and_reasons c p r t).hops
unfolding hops_and_reasons
note_extends c p r t = by_test (is_shown r)
  where
    by_test : (b : Bool) → Extends t.hops (if b then t.hops ++ (c, p) ∷ [] else t.hops)
    by_test true = ((c, p) ∷ [], refl)
    by_test false = ([], sym (append-nil t.hops))

-- a path only grows
pub follows_extends : {t u : Trace} → Follows Trace hops_and_reasons t u → Extends t.hops u.hops
follows_extends {t} (here e) = ([], ap (λ (x : Trace). x.hops) (sym e) ∙ sym (append-nil t.hops))
follows_extends {t} (behind {t = s} c p r f e) =
    let g = follows_extends f in
    let h = note_extends c p r s in
    (g.0 ++ h.0, ap (λ (x : Trace). x.hops) e ∙ h.1 ∙ ap (λ l. l ++ h.0) g.1 ∙ append_assoc t.hops g.0 h.0)

pub on_err : {A E : Type 0} (r : Result A E) (P : Type 0) → P → OnErr r P
on_err (Ok x) P h = tt
on_err (Err e) P h = h

pub if_ok_then : {A E : Type 0} (r : Result A E) (P Q : A → Type 0) → ((x : A) → P x → Q x) → IfOk r P → IfOk r Q
if_ok_then (Ok x) P Q f h = f x h
if_ok_then (Err e) P Q f h = tt

pub on_err_then : {A E : Type 0} (r : Result A E) (P Q : Type 0) → (P → Q) → OnErr r P → OnErr r Q
on_err_then (Ok x) P Q f h = tt
on_err_then (Err e) P Q f h = f h
