-- A chain is alike to itself, and chains that are alike hold the same matches and targets.
use Rattle.std.proofs.Common.{◌≡◌, Bool, true, false, ◌&&◌, List, [], ◌∷◌, map, refl, ap, subst}
use Rattle.std.specs.Cmp.Lexicographic.{pointwise}
use Rattle.fx_base.specs.Same.{same_list, both_pass}
use Rattle.fx_model.specs.SameChainRules.{same_match, same_target}
use Rattle.fx_model.specs.declared.chain.Match.{Match}
use Rattle.fx_model.specs.declared.chain.Target.{Target}
use Rattle.fx_model.specs.declared.chain.ChainRule.{ChainRule}
use Rattle.fx_model.specs.contracts.chain.MatchPartialEq.TheImpl as match_eq
use Rattle.fx_model.specs.contracts.chain.MatchEq.TheImpl.Laws as match_laws
use Rattle.fx_model.specs.contracts.chain.TargetPartialEq.TheImpl as target_eq
use Rattle.fx_model.specs.contracts.chain.TargetEq.TheImpl.Laws as target_laws
use Rattle.fx_reconcile.specs.Alike.{is_alike_rule, are_alike, held_of}

both_true : (a b : Bool) → a ≡ true → b ≡ true → (a && b) ≡ true
both_true true b p q = q
both_true false b p q = cc

list_itself : {A : Type 0} (E : A → A → Bool) → ((x : A) → E x x ≡ true) → (xs : List A) → pointwise E xs xs ≡ true
list_itself E e [] = refl
list_itself E e (x ∷ xs) = both_true _ _ (e x) (list_itself E e xs)

matches_itself : (ms : List Match) → pointwise match_eq.eq-value.it ms ms ≡ true
matches_itself ms = list_itself match_eq.eq-value.it match_laws.laws-law.refl ms

target_itself : (t : Target) → target_eq.eq-value.it t t ≡ true
target_itself t = target_laws.laws-law.refl t

pub alike_itself : (rs : List ChainRule) → are_alike rs rs ≡ true
alike_itself rs = list_itself is_alike_rule (λ r. both_true _ _ (matches_itself r.matches) (target_itself r.target)) rs

pub same_held : (rs ss : List ChainRule) → are_alike rs ss ≡ true → map held_of rs ≡ map held_of ss
same_held [] [] h = refl
same_held [] (s ∷ ss) h = cc
same_held (r ∷ rs) [] h = cc
same_held (r ∷ rs) (s ∷ ss) h =
    let p = both_pass _ _ h in
    let q = both_pass _ _ p.0 in
    λ i. (same_list _ same_match r.matches s.matches q.0 i, same_target r.target s.target q.1 i) ∷ same_held rs ss p.1 i

matches_alike : (ms ws : List Match) → ms ≡ ws → pointwise match_eq.eq-value.it ms ws ≡ true
matches_alike ms ws e = subst (λ (l : List Match). pointwise match_eq.eq-value.it ms l ≡ true) e (matches_itself ms)

targets_alike : (t u : Target) → t ≡ u → target_eq.eq-value.it t u ≡ true
targets_alike t u e = subst (λ (v : Target). target_eq.eq-value.it t v ≡ true) e (target_itself t)

pub held_alike : (rs ss : List ChainRule) → map held_of rs ≡ map held_of ss → are_alike rs ss ≡ true
held_alike [] [] e = refl
held_alike [] (s ∷ ss) e = cc
held_alike (r ∷ rs) [] e = cc
held_alike (r ∷ rs) (s ∷ ss) e =
    let first : held_of r ≡ held_of s = cc in
    let later : map held_of rs ≡ map held_of ss = cc in
    both_true _ _ (both_true _ _ (matches_alike r.matches s.matches (ap (λ h. h.0) first)) (targets_alike r.target s.target (ap (λ h. h.1) first))) (held_alike rs ss later)
