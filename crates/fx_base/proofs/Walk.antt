-- A walk of a map in the order of its keys, each step of which brings one row up to date.
use Rattle.std.proofs.Common.{◌≡◌, false, cond, List, ◌∷◌, Some, None, is_some, T, refl, sym, ap, ◌∙◌}
use Rattle.std.specs.declared.cmp.Ordering.{Ordering}
use Rattle.std.specs.declared.cmp.Ordering.TheVariants.{Less, Equal, Greater}
use Rattle.std.specs.Ordering.{is_eq, eq_by_cmp}
use Rattle.std.specs.Cmp.{IsTotalOrder, tied_itself}
use Rattle.std.specs.FinMap.{FinMap, IsAntisymmetric, find, is_sorted, entries, entries_sorted, get, get-entries}
use Rattle.fx_base.proofs.Sorted.{gone}
use Rattle.fx_base.proofs.Cases.{second}

-- es are left of the walk of m
pub record IsRest {K X : Type 0} {R : K → K → Ordering} (m : FinMap R X) (es : List (K × X)) : Type 0 where
  pub sorted : T (is_sorted R es)
  pub within : (t : K) (x : X) → find R t es ≡ Some x → get m t ≡ Some x

-- the rows of the keys that are left are as before, the others as after
pub record IsHalf {K X I A : Type 0} (R : K → K → Ordering) (before after state : K → I → A) (es : List (K × X)) : Type 0 where
  pub at : (t : K) (i : I) → state t i ≡ cond (is_some (find R t es)) (before t i) (after t i)

module _ {K X : Type 0} {R : K → K → Ordering} (o : IsTotalOrder R) where
  pub found : (e : K × X) (es : List (K × X)) → find R e.0 (e ∷ es) ≡ Some e.1
  found e es = ap (λ r. cond (is_eq r) (Some e.1) (find R e.0 es)) (tied_itself o e.0)

  pub IsRest-start : (m : FinMap R X) → IsRest m (entries m)
  IsRest-start m = record { sorted = entries_sorted m; within = λ t x h. get-entries m t ∙ h }

  pub IsRest-head : (m : FinMap R X) (e : K × X) (es : List (K × X)) → IsRest m (e ∷ es) → get m e.0 ≡ Some e.1
  IsRest-head m e es h = h.within e.0 e.1 (found e es)

  module _ (exact : IsAntisymmetric R) where
    pub IsRest-next : (m : FinMap R X) (e : K × X) (es : List (K × X)) → IsRest m (e ∷ es) → IsRest m es
    IsRest-next m e es h = record {
      sorted = second _ _ h.sorted;
      within = λ t x k.
          elim (R t e.0) as (λ r. R t e.0 ≡ r → get m t ≡ Some x) [
            | Less ↦ λ p. h.within t x (ap (λ r. cond (is_eq r) (Some e.1) (find R t es)) p ∙ k)
            | Greater ↦ λ p. h.within t x (ap (λ r. cond (is_eq r) (Some e.1) (find R t es)) p ∙ k)
            | Equal ↦ λ p. let no : None ≡ Some x = sym (gone R exact e es h.sorted t p) ∙ k in cc
          ] refl;
    }

    module _ {I A : Type 0} (before after : K → I → A) where
      -- a row that is left is as before
      pub IsHalf-head : (state : K → I → A) (e : K × X) (es : List (K × X)) → IsHalf R before after state (e ∷ es) → (i : I) → state e.0 i ≡ before e.0 i
      IsHalf-head state e es h i = h.at e.0 i ∙ ap (λ o. cond (is_some o) (before e.0 i) (after e.0 i)) (found e es)

      pub IsHalf-next : (m : FinMap R X) (state next : K → I → A) (e : K × X) (es : List (K × X)) → IsRest m (e ∷ es) → IsHalf R before after state (e ∷ es) → ((i : I) → next e.0 i ≡ after e.0 i) → ((t : K) (i : I) → eq_by_cmp R t e.0 ≡ false → next t i ≡ state t i) → IsHalf R before after next es
      IsHalf-next m state next e es w h row others = record {
        at = λ t i.
            elim (R t e.0) as (λ r. R t e.0 ≡ r → next t i ≡ cond (is_some (find R t es)) (before t i) (after t i)) [
              | Less ↦ λ p. others t i (ap is_eq p) ∙ h.at t i ∙ ap (λ r. cond (is_some (cond (is_eq r) (Some e.1) (find R t es))) (before t i) (after t i)) p
              | Greater ↦ λ p. others t i (ap is_eq p) ∙ h.at t i ∙ ap (λ r. cond (is_some (cond (is_eq r) (Some e.1) (find R t es))) (before t i) (after t i)) p
              | Equal ↦ λ p. ap (λ k. next k i) (exact t e.0 p) ∙ row i ∙ ap (λ k. after k i) (sym (exact t e.0 p)) ∙ sym (ap (λ o. cond (is_some o) (before t i) (after t i)) (gone R exact e es w.sorted t p))
            ] refl;
      }
