-- Which keys of a set were passed on a walk of it.
use Rattle.std.proofs.Common.{◌≡◌, Bool, true, false, cond, not, ◌&&◌, List, [], ◌∷◌, Some, is_some, refl, sym, ap, ◌∙◌}
use Rattle.std.specs.declared.cmp.Ordering.{Ordering}
use Rattle.std.specs.declared.cmp.Ordering.TheVariants.{Less, Equal, Greater}
use Rattle.std.specs.Ordering.{eq_by_cmp, is_eq}
use Rattle.std.specs.Cmp.{IsTotalOrder, tied_itself}
use Rattle.std.specs.FinMap as map
use Rattle.std.specs.FinMap.{IsAntisymmetric, find}
use Rattle.fx_base.specs.Set as set
use Rattle.fx_base.proofs.Walk.{IsRest, IsRest-head, found}
use Rattle.fx_base.proofs.Cases.{never, always}
use Rattle.fx_base.proofs.Sorted.{gone}

-- these are left
abbrev pub passed : {K : Type 0} {R : K → K → Ordering} → set.Set R → List (K × Unit {0}) → K → Bool
passed {R = R} s es k = set.contains s k && not (is_some (find R k es))

abbrev pub left : {K : Type 0} {R : K → K → Ordering} → set.Set R → List (K × Unit {0}) → K → Bool
left {R = R} s es k = set.contains s k && is_some (find R k es)

not_both : (b : Bool) → (b && not b) ≡ false
not_both true = refl
not_both false = refl

twice : (b : Bool) → (b && b) ≡ b
twice true = refl
twice false = refl

module _ {K : Type 0} {R : K → K → Ordering} (s : set.Set R) where
  pub passed_start : (k : K) → passed s (map.entries s) k ≡ false
  passed_start k = ap (λ o. set.contains s k && not (is_some o)) (sym (map.get-entries s k)) ∙ not_both (set.contains s k)

  pub passed_end : (k : K) → passed s [] k ≡ set.contains s k
  passed_end k = always (set.contains s k)

  pub left_start : (k : K) → left s (map.entries s) k ≡ set.contains s k
  left_start k = ap (λ o. set.contains s k && is_some o) (sym (map.get-entries s k)) ∙ twice (set.contains s k)

  pub left_end : (k : K) → left s [] k ≡ false
  left_end k = never (set.contains s k)

module _ {K : Type 0} {R : K → K → Ordering} (o : IsTotalOrder R) (exact : IsAntisymmetric R) (s : set.Set R) (e : K × Unit {0}) (es : List (K × Unit {0})) where
  pub passed_head : passed s (e ∷ es) e.0 ≡ false
  passed_head = ap (λ f. set.contains s e.0 && not (is_some f)) (found o e es) ∙ never (set.contains s e.0)

  module _ (rest : IsRest s (e ∷ es)) where
    pub there : set.contains s e.0 ≡ true
    there = ap is_some (IsRest-head o s e es rest)

    pub left_head : left s (e ∷ es) e.0 ≡ true
    left_head = ap (λ f. set.contains s e.0 && is_some f) (found o e es) ∙ always (set.contains s e.0) ∙ there

    passed_here : passed s es e.0 ≡ true
    passed_here =
        ap (λ f. set.contains s e.0 && not (is_some f)) (gone R exact e es rest.sorted e.0 (tied_itself o e.0))
        ∙ always (set.contains s e.0) ∙ there

    left_here : left s es e.0 ≡ false
    left_here =
        ap (λ f. set.contains s e.0 && is_some f) (gone R exact e es rest.sorted e.0 (tied_itself o e.0))
        ∙ never (set.contains s e.0)

    pub passed_next : (k : K) → passed s es k ≡ cond (eq_by_cmp R k e.0) true (passed s (e ∷ es) k)
    passed_next k =
        elim (R k e.0) as (λ r. R k e.0 ≡ r → passed s es k ≡ cond (is_eq r) true (set.contains s k && not (is_some (cond (is_eq r) (Some e.1) (find R k es))))) [
          | Less ↦ λ p. refl
          | Equal ↦ λ p. ap (passed s es) (exact k e.0 p) ∙ passed_here
          | Greater ↦ λ p. refl
        ] refl

    pub left_next : (k : K) → left s es k ≡ cond (eq_by_cmp R k e.0) false (left s (e ∷ es) k)
    left_next k =
        elim (R k e.0) as (λ r. R k e.0 ≡ r → left s es k ≡ cond (is_eq r) false (set.contains s k && is_some (cond (is_eq r) (Some e.1) (find R k es)))) [
          | Less ↦ λ p. refl
          | Equal ↦ λ p. ap (left s es) (exact k e.0 p) ∙ left_here
          | Greater ↦ λ p. refl
        ] refl
