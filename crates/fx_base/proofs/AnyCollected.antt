-- Some item of the set of a list passes a test exactly where some element of the list does.
use Rattle.std.proofs.Common.{◌≡◌, Bool, true, false, ◌||◌, List, [], ◌∷◌, map, refl, sym, ap, ◌∙◌}
use Rattle.std.specs.declared.cmp.Ordering.{Ordering}
use Rattle.std.specs.declared.cmp.Ordering.TheVariants.{Less, Equal, Greater}
use Rattle.std.specs.List.{list_any}
use Rattle.std.specs.Cmp.{IsTotalOrder}
use Rattle.std.specs.FinMap.{IsAntisymmetric, put, entries, empty, insert, entries-insert}
use Rattle.std.specs.FinMap.Entries.{by_order}
use Rattle.fx_base.specs.Extended.{extended, collected}
use Rattle.fx_base.specs.Set.{Set, marked, items}
use Rattle.fx_base.proofs.Entries.{entries-empty}
use Rattle.fx_base.proofs.Cases.{swapped, none_else}

twice : (a b : Bool) → (a || b) ≡ (a || (a || b))
twice true b = refl
twice false b = refl

regrouped : (a b c : Bool) → (a || (b || c)) ≡ ((b || a) || c)
regrouped true true c = refl
regrouped true false c = refl
regrouped false true c = refl
regrouped false false c = refl

module _ {K : Type 0} {R : K → K → Ordering} (o : IsTotalOrder R) (exact : IsAntisymmetric R) (p : K → Bool) where
  abbrev any_key : List (K × Unit {0}) → Bool
  any_key es = list_any p (map (λ e. e.0) es)

  any-put : (k : K) (es : List (K × Unit {0})) → any_key (put R k tt es) ≡ (p k || any_key es)
  any-put k [] = refl
  any-put k (e ∷ es) =
      elim (R k e.0) as (λ r. R k e.0 ≡ r → any_key (by_order r ((k, tt) ∷ e ∷ es) ((e.0, tt) ∷ es) (e ∷ put R k tt es)) ≡ (p k || (p e.0 || any_key es))) [
        | Less ↦ λ is. refl
        | Equal ↦ λ is. twice (p e.0) (any_key es) ∙ ap (λ b. b || (p e.0 || any_key es)) (ap p (sym (exact k e.0 is)))
        | Greater ↦ λ is. ap (λ b. p e.0 || b) (any-put k es) ∙ swapped (p e.0) (p k) (any_key es)
      ] refl

  any-extended : (s : Set R) (ks : List K) → list_any p (items (extended s (marked ks))) ≡ (list_any p ks || list_any p (items s))
  any-extended s [] = refl
  any-extended s (k ∷ ks) =
      any-extended (insert s k tt) ks
      ∙ ap (λ b. list_any p ks || b) (ap any_key (entries-insert o s k tt) ∙ any-put k (entries s))
      ∙ regrouped (list_any p ks) (p k) (list_any p (items s))

  pub any-collected : (ks : List K) → list_any p (items {R = R} (collected (marked ks))) ≡ list_any p ks
  any-collected ks =
      any-extended empty ks
      ∙ ap (λ es. list_any p ks || any_key es) (entries-empty R)
      ∙ none_else (list_any p ks)
