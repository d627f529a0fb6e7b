-- The walk by recursion is what the machine does step by step.
use Rattle.std.proofs.Common.{◌≡◌, ◌<◌, ◌≤◌, ℕ, zero, suc, Bool, true, false, ◌||◌, if◌then◌else◌, List, [], ◌∷◌, slice_get, Option, Some, None, refl, sym, ap, ◌∙◌, subst, drop, length, get_or, ◌-◌, ◌+◌, arith, lit<}
use Rattle.std.proofs.Math.Seq.{drop-cons}
use Rattle.std.proofs.lemmas.List.{drop_all}
use Rattle.std.specs.Str.{bytes_eq}
use Rattle.std.specs.FinMap as maps
use Rattle.fx_model.specs.declared.packet.Verdict.{Verdict}
use Rattle.fx_model.specs.declared.packet.Verdict.TheVariants.{Allow, Deny}
use Rattle.fx_model.specs.declared.chain.Target.{Target}
use Rattle.fx_model.specs.declared.chain.Target.TheVariants as target
use Rattle.fx_model.specs.declared.chain.ChainRule.{ChainRule}
use Rattle.fx_model.specs.Tables.{ChainName, Chains, forward}
use Rattle.fx_model.specs.Ranks.{LeadsBelow, AllLeadBelow, IsRanked, rank_of, is_root, is_child, is_host_hook, is_host_root, is_of_endpoint, is_of_host_endpoint}
use Rattle.fx_model.specs.Machine.{Test, Notes, hold_all, marked, rules_found, rules_in, Place, Config, Next, Goes, Ends, at_rule, popped, acted, at_next, machine_step, Run, ended, stepped}
use Rattle.fx_model.specs.Walk.{Onward, Ended, Accepted, Dropped, Left, Through, verdict_of, noted_in, onward, obeyed, over_rule, over_rules, over_chain, after_jump, after_goto}

-- what stands in a list from a place on
pub get-at : {A : Type 0} (p : ℕ) (xs : List A) (x : A) (rest : List A) → drop p xs ≡ x ∷ rest → slice_get xs p ≡ Some x
get-at zero [] x rest e = cc
get-at zero (y ∷ ys) x rest e = cc
get-at (suc p) [] x rest e = cc
get-at (suc p) (y ∷ ys) x rest e = get-at p ys x rest e

pub get-end : {A : Type 0} (p : ℕ) (xs : List A) → drop p xs ≡ [] → slice_get xs p ≡ None
get-end zero [] e = refl
get-end zero (y ∷ ys) e = cc
get-end (suc p) [] e = refl
get-end (suc p) (y ∷ ys) e = get-end p ys e

pub drop-next : {A : Type 0} (p : ℕ) (xs : List A) (x : A) (rest : List A) → drop p xs ≡ x ∷ rest → drop (suc p) xs ≡ rest
drop-next zero [] x rest e = cc
drop-next zero (y ∷ ys) x rest e = cc
drop-next (suc p) [] x rest e = cc
drop-next (suc p) (y ∷ ys) x rest e = drop-next p ys x rest e

-- ---- one rule at a time
module _ {S : Type 0} (note : Notes S) (a : Test) (call : ChainName → Onward S) where
  pub walk-end : (c : ChainName) (p m : ℕ) (s : S) → over_rules note a call c p [] m s ≡ Through m s
  unfolding over_rules
  walk-end c p m s = refl

  pub walk-rule : (c : ChainName) (p : ℕ) (r : ChainRule) (rs : List ChainRule) (m : ℕ) (s : S) → over_rules note a call c p (r ∷ rs) m s ≡ onward (over_rule note a call c p r m s) (over_rules note a call c (suc p) rs)
  unfolding over_rules
  walk-rule c p r rs m s = refl

  pub rule_hit : (c : ChainName) (p : ℕ) (r : ChainRule) (m : ℕ) (s : S) → hold_all a m r.matches ≡ true → over_rule note a call c p r m s ≡ obeyed call r.target m (note c p r s)
  unfolding over_rule
  rule_hit c p r m s e = rw (e, over_rule) refl

  pub rule_miss : (c : ChainName) (p : ℕ) (r : ChainRule) (m : ℕ) (s : S) → hold_all a m r.matches ≡ false → over_rule note a call c p r m s ≡ Through m s
  unfolding over_rule
  rule_miss c p r m s e = rw (e, over_rule) refl

  pub walk_hit : (c : ChainName) (p : ℕ) (r : ChainRule) (rs : List ChainRule) (m : ℕ) (s : S) → hold_all a m r.matches ≡ true → over_rules note a call c p (r ∷ rs) m s ≡ onward (obeyed call r.target m (note c p r s)) (over_rules note a call c (suc p) rs)
  walk_hit c p r rs m s e = walk-rule c p r rs m s ∙ ap (λ x. onward x (over_rules note a call c (suc p) rs)) (rule_hit c p r m s e)

  pub walk_miss : (c : ChainName) (p : ℕ) (r : ChainRule) (rs : List ChainRule) (m : ℕ) (s : S) → hold_all a m r.matches ≡ false → over_rules note a call c p (r ∷ rs) m s ≡ over_rules note a call c (suc p) rs m s
  walk_miss c p r rs m s e = walk-rule c p r rs m s ∙ ap (λ x. onward x (over_rules note a call c (suc p) rs)) (rule_miss c p r m s e)

-- a chain is its rules, with one jump less to go
pub chain-rules : {S : Type 0} (note : Notes S) (a : Test) (chains : Chains) (n : ℕ) (c : ChainName) (m : ℕ) (s : S) → (n ≡ 0 → ⊥) → over_chain note a chains n c m s ≡ over_rules note a (over_chain note a chains (n - 1)) c 1 (rules_in chains c) m s
unfolding over_chain
chain-rules note a chains zero c m s h = absurd (h refl)
chain-rules note a chains (suc n) c m s h =
    let e : n ≡ suc n - 1 = omega arith in ap (λ k. over_rules note a (over_chain note a chains k) c 1 (rules_in chains c) m s) e

-- the same where the chain's rules are known
pub chain-start : {S : Type 0} (note : Notes S) (a : Test) (chains : Chains) (n : ℕ) (c : ChainName) (m : ℕ) (s : S) (rs : List ChainRule) → (n ≡ 0 → ⊥) → rules_in chains c ≡ rs → over_chain note a chains n c m s ≡ over_rules note a (over_chain note a chains (n - 1)) c 1 rs m s
chain-start note a chains n c m s rs h e = chain-rules note a chains n c m s h ∙ ap (λ x. over_rules note a (over_chain note a chains (n - 1)) c 1 x m s) e

-- a chain that isn't there, or none at all
pub chain-none : {S : Type 0} (note : Notes S) (a : Test) (chains : Chains) (n : ℕ) (c : ChainName) (m : ℕ) (s : S) → rules_in chains c ≡ [] → over_chain note a chains n c m s ≡ Through m s
unfolding over_chain over_rules
chain-none note a chains zero c m s h = refl
chain-none note a chains (suc n) c m s h = ap (λ rs. over_rules note a (over_chain note a chains n) c 1 rs m s) h

pub chain-zero : {S : Type 0} (note : Notes S) (a : Test) (chains : Chains) (n : ℕ) (c : ChainName) (m : ℕ) (s : S) → n ≡ 0 → over_chain note a chains n c m s ≡ Through m s
unfolding over_chain
chain-zero note a chains n c m s h = rw h refl

-- the rules from place i on begin with the rule there
pub walk-next : {S : Type 0} (note : Notes S) (a : Test) (call : ChainName → Onward S) (c : ChainName) (i : ℕ) (rules : List ChainRule) (r : ChainRule) (m : ℕ) (s : S) → i < length rules → r ≡ get_or rules i r → over_rules note a call c (i + 1) (drop i rules) m s ≡ onward (over_rule note a call c (i + 1) r m s) (over_rules note a call c (i + 1 + 1) (drop (i + 1) rules))
walk-next note a call c i rules r m s low is =
    let e : i + 1 + 1 ≡ suc (i + 1) = omega arith in
    let d : i + 1 ≡ suc i = omega arith in
    rw (drop-cons rules i r low, ← is, e, d) (walk-rule note a call c (suc i) r (drop (suc i) rules) m s)

-- one rule more of a walk that is at place i
pub walk-step : {S : Type 0} (note : Notes S) (a : Test) (call : ChainName → Onward S) (c : ChainName) (i : ℕ) (rules : List ChainRule) (r : ChainRule) (m : ℕ) (s : S) (whole x : Ended S) → whole ≡ over_rules note a call c (i + 1) (drop i rules) m s → i < length rules → r ≡ get_or rules i r → x ≡ over_rule note a call c (i + 1) r m s → whole ≡ onward x (over_rules note a call c (i + 1 + 1) (drop (i + 1) rules))
walk-step note a call c i rules r m s whole x w low is e =
    w ∙ walk-next note a call c i rules r m s low is ∙ ap (λ y. onward y (over_rules note a call c (i + 1 + 1) (drop (i + 1) rules))) (sym e)

pub walk-over : {S : Type 0} (note : Notes S) (a : Test) (call : ChainName → Onward S) (c : ChainName) (i : ℕ) (rules : List ChainRule) (m : ℕ) (s : S) (whole : Ended S) → whole ≡ over_rules note a call c (i + 1) (drop i rules) m s → length rules ≤ i → Through m s ≡ whole
walk-over note a call c i rules m s whole w h =
    sym (w ∙ ap (λ rs. over_rules note a call c (i + 1) rs m s) (drop_all i rules h) ∙ walk-end note a call c (i + 1) m s)

-- ---- ranks

-- chains have five ranks
pub rank_below_five : (c : ChainName) → rank_of c < 5
rank_below_five c = by_tests (bytes_eq c forward || is_host_hook c) (is_root c || is_host_root c) (is_child c) (is_of_endpoint c || is_of_host_endpoint c)
  where
    by_tests : (first root child endpoint : Bool) → (if first then 4 else (if root then 3 else (if child then 2 else (if endpoint then 1 else 0)))) < 5
    by_tests true root child endpoint = lit< tt
    by_tests false true child endpoint = lit< tt
    by_tests false false true endpoint = lit< tt
    by_tests false false false true = lit< tt
    by_tests false false false false = lit< tt

-- ---- against the machine by single steps

-- what a next configuration, or an end, leads to
abbrev pub Leads : {S : Type 0} → Notes S → Test → Chains → Next S → Verdict → S → Type 0
Leads note a chains (Goes d) v t = Run _ note a chains d v t
Leads note a chains (Ends w s) v t = (w ≡ v) × (s ≡ t)

-- what the end of a walk of rules leads to, below these return places
abbrev pub Means : {S : Type 0} → Notes S → Test → Chains → Ended S → List Place → Verdict → S → Type 0
Means note a chains (Accepted s) stack v t = (Allow ≡ v) × (s ≡ t)
Means note a chains (Dropped s) stack v t = (Deny ≡ v) × (s ≡ t)
Means note a chains (Left m s) stack v t = Leads note a chains (popped stack m s) v t
Means note a chains (Through m s) stack v t = Leads note a chains (popped stack m s) v t

module _ {S : Type 0} (note : Notes S) (a : Test) (chains : Chains) where
  run-from : (c : Config S) (v : Verdict) (t : S) (n : Next S) → machine_step note a chains c ≡ n → Leads note a chains n v t → Run S note a chains c v t
  run-from c v t (Goes d) e l = stepped e l
  run-from c v t (Ends w s) e l = ended (e ∙ ap (λ x. Ends x s) l.0 ∙ ap (λ x. Ends v x) l.1)

  step-end : (c : ChainName) (p : ℕ) (stack : List Place) (m : ℕ) (s : S) → drop p (rules_in chains c) ≡ [] → machine_step note a chains (at_rule c p stack m s) ≡ popped stack m s
  step-end c p stack m s e = ap (λ o. at_next note a o c p stack m s) (get-end p (rules_in chains c) e)

  step-hit : (c : ChainName) (p : ℕ) (stack : List Place) (m : ℕ) (s : S) (r : ChainRule) (rest : List ChainRule) (to : Target) → drop p (rules_in chains c) ≡ r ∷ rest → hold_all a m r.matches ≡ true → r.target ≡ to → machine_step note a chains (at_rule c p stack m s) ≡ acted to c p stack m (note c (suc p) r s)
  step-hit c p stack m s r rest to e h et =
      ap (λ o. at_next note a o c p stack m s) (get-at p (rules_in chains c) r rest e) ∙ rw (h, at_next) (ap (λ x. acted x c p stack m (note c (suc p) r s)) et)

  step-miss : (c : ChainName) (p : ℕ) (stack : List Place) (m : ℕ) (s : S) (r : ChainRule) (rest : List ChainRule) → drop p (rules_in chains c) ≡ r ∷ rest → hold_all a m r.matches ≡ false → machine_step note a chains (at_rule c p stack m s) ≡ Goes (at_rule c (suc p) stack m s)
  step-miss c p stack m s r rest e h =
      ap (λ o. at_next note a o c p stack m s) (get-at p (rules_in chains c) r rest e) ∙ rw (h, at_next) refl

  -- these rules, from a place of a chain on, lead to where the machine leads from that place
  abbrev Onto : Onward S → ChainName → ℕ → Type 0
  Onto go c p = (m : ℕ) (s : S) (stack : List Place) (v : Verdict) (t : S) → Means note a chains (go m s) stack v t → Run S note a chains (at_rule c p stack m s) v t

  jump-means : (go : Onward S) (c : ChainName) (p : ℕ) → Onto go c p → (x : Ended S) (stack : List Place) (v : Verdict) (t : S) → Means note a chains (onward (after_jump x) go) stack v t → Means note a chains x (record { chain = c; passed = p } ∷ stack) v t
  jump-means go c p onto (Accepted s) stack v t l = l
  jump-means go c p onto (Dropped s) stack v t l = l
  jump-means go c p onto (Left m s) stack v t l = onto m s stack v t l
  jump-means go c p onto (Through m s) stack v t l = onto m s stack v t l

  goto-means : (go : Onward S) (x : Ended S) (stack : List Place) (v : Verdict) (t : S) → Means note a chains (onward (after_goto x) go) stack v t → Means note a chains x stack v t
  goto-means go (Accepted s) stack v t l = l
  goto-means go (Dropped s) stack v t l = l
  goto-means go (Left m s) stack v t l = l
  goto-means go (Through m s) stack v t l = l

  module _ (call : ChainName → Onward S) (n : ℕ) (called : (d : ChainName) → rank_of d < n → Onto (call d) d 0) where
    hit-run : (go : Onward S) (c : ChainName) (p : ℕ) → Onto go c (suc p) → (to : Target) → LeadsBelow n to → (m : ℕ) (s s' : S) (stack : List Place) (v : Verdict) (t : S) → machine_step note a chains (at_rule c p stack m s) ≡ acted to c p stack m s' → Means note a chains (onward (obeyed call to m s') go) stack v t → Run S note a chains (at_rule c p stack m s) v t
    hit-run go c p onto target.Accept low m s s' stack v t e l = run-from _ v t (Ends Allow s') e l
    hit-run go c p onto target.Drop low m s s' stack v t e l = run-from _ v t (Ends Deny s') e l
    hit-run go c p onto target.Return low m s s' stack v t e l = run-from _ v t (popped stack m s') e l
    hit-run go c p onto (target.Jump d) low m s s' stack v t e l =
        stepped e (called d low m s' (record { chain = c; passed = suc p } ∷ stack) v t (jump-means go c (suc p) onto (call d m s') stack v t l))
    hit-run go c p onto (target.Goto d) low m s s' stack v t e l =
        stepped e (called d low m s' stack v t (goto-means go (call d m s') stack v t l))
    hit-run go c p onto (target.Mark value mask) low m s s' stack v t e l =
        stepped e (onto (marked m value mask) s' stack v t l)
    hit-run go c p onto target.Log low m s s' stack v t e l = stepped e (onto m s' stack v t l)

    rules-run : (c : ChainName) (rest : List ChainRule) (p : ℕ) → drop p (rules_in chains c) ≡ rest → AllLeadBelow n rest → Onto (over_rules note a call c (suc p) rest) c p
    unfolding over_rules
    rules-run c [] p e low m s stack v t l = run-from _ v t (popped stack m s) (step-end c p stack m s e) l
    rules-run c (r ∷ rest) p e low m s stack v t l = by_test (rules-run c rest (suc p) (drop-next p (rules_in chains c) r rest e) low.1) (hold_all a m r.matches) refl
      where
        by_test : Onto (over_rules note a call c (suc (suc p)) rest) c (suc p) → (b : Bool) → hold_all a m r.matches ≡ b → Run S note a chains (at_rule c p stack m s) v t
        by_test next true h =
            hit-run (over_rules note a call c (suc (suc p)) rest) c p next r.target low.0 m s (note c (suc p) r s) stack v t (step-hit c p stack m s r rest r.target e h refl) (subst (λ x. Means note a chains x stack v t) (walk_hit note a call c (suc p) r rest m s h) l)
        by_test next false h =
            stepped (step-miss c p stack m s r rest e h) (next m s stack v t (subst (λ x. Means note a chains x stack v t) (walk_miss note a call c (suc p) r rest m s h) l))

  pub low_rules : IsRanked chains → (c : ChainName) → AllLeadBelow (rank_of c) (rules_in chains c)
  low_rules ranked c = by_found (maps.get chains c) refl
    where
      by_found : (o : Option (List ChainRule)) → maps.get chains c ≡ o → AllLeadBelow (rank_of c) (rules_found o)
      by_found None e = tt
      by_found (Some rs) e = ranked.lower c rs e

  -- a whole chain, where rules lead to lower ranks
  pub chain-run : IsRanked chains → (n : ℕ) (c : ChainName) → rank_of c < n → Onto (over_chain note a chains n c) c 0
  unfolding over_chain
  chain-run ranked zero c low m s stack v t l = absurd (omega arith)
  chain-run ranked (suc n) c low m s stack v t l =
      rules-run (over_chain note a chains n) (rank_of c) (λ d h. chain-run ranked n d (omega arith)) c (rules_in chains c) 0 refl (low_rules ranked c) m s stack v t l

  -- the whole run from a chain, from the walk of that chain
  walked-run-from : IsRanked chains → (c : ChainName) → rank_of c < 5 → (m : ℕ) (s : S) (v : Verdict) (t : S) → Means note a chains (over_chain note a chains 5 c m s) [] v t → Run S note a chains (at_rule c 0 [] m s) v t
  walked-run-from ranked c low m s v t l = chain-run ranked 5 c low m s [] v t l

  -- the same from the first chain
  pub walked-run : IsRanked chains → (m : ℕ) (s : S) (v : Verdict) (t : S) → Means note a chains (over_chain note a chains 5 forward m s) [] v t → Run S note a chains (at_rule forward 0 [] m s) v t
  walked-run ranked m s v t l = let low : rank_of forward < 5 = lit< tt in walked-run-from ranked forward low m s v t l

  own-meaning : (e : Ended S) → Means note a chains e [] (verdict_of e) (noted_in e)
  own-meaning (Accepted s) = (refl, refl)
  own-meaning (Dropped s) = (refl, refl)
  own-meaning (Left m s) = (refl, refl)
  own-meaning (Through m s) = (refl, refl)

  -- the run from a chain ends as the walk of that chain does
  pub ended-run-from : IsRanked chains → (c : ChainName) → rank_of c < 5 → (s : S) → Run S note a chains (at_rule c 0 [] 0 s) (verdict_of (over_chain note a chains 5 c 0 s)) (noted_in (over_chain note a chains 5 c 0 s))
  ended-run-from ranked c low s = walked-run-from ranked c low 0 s _ _ (own-meaning (over_chain note a chains 5 c 0 s))

  -- the same from the first chain
  pub ended-run : IsRanked chains → (s : S) → Run S note a chains (at_rule forward 0 [] 0 s) (verdict_of (over_chain note a chains 5 forward 0 s)) (noted_in (over_chain note a chains 5 forward 0 s))
  ended-run ranked s = let low : rank_of forward < 5 = lit< tt in ended-run-from ranked forward low s

-- a run has one end
module _ {S : Type 0} (note : Notes S) (a : Test) (chains : Chains) where
  goes-same : {c d : Config S} → ◌≡◌ {A = Next S} (Goes c) (Goes d) → c ≡ d
  goes-same e = cc

  pub one-end : {c : Config S} {v w : Verdict} {s t : S} → Run S note a chains c v s → Run S note a chains c w t → (v ≡ w) × (s ≡ t)
  one-end (ended e) (ended f) = let g : Ends _ _ ≡ Ends _ _ = sym e ∙ f in (cc, cc)
  one-end (ended e) (stepped f r) = let g : Ends _ _ ≡ Goes _ = sym e ∙ f in absurd (cc)
  one-end (stepped e q) (ended f) = let g : Goes _ ≡ Ends _ _ = sym e ∙ f in absurd (cc)
  one-end {v = v} {w = w} {s = s} {t = t} (stepped e q) (stepped f r) = one-end q (subst (λ d. Run S note a chains d w t) (goes-same (sym f ∙ e)) r)
