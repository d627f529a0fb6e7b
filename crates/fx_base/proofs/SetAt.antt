-- What a set has after a change.
use Rattle.std.proofs.Common.{◌≡◌, Bool, true, false, cond, ◌&&◌, Option, Some, None, is_some, refl, sym, ap, ◌∙◌}
use Rattle.std.specs.declared.cmp.Ordering.{Ordering}
use Rattle.std.specs.declared.cmp.Ordering.TheVariants.{Less, Equal, Greater}
use Rattle.std.specs.Ordering.{is_eq, eq_by_cmp, ordering_then}
use Rattle.std.specs.Cmp.{IsTotalOrder}
use Rattle.std.specs.FinMap.{IsAntisymmetric, get, get-insert, get-remove, same_map}
use Rattle.fx_base.specs.Set.{Set, contains, insert, remove}
use Rattle.fx_base.proofs.AtKey.{insert_same}
use Rattle.fx_base.proofs.Cases.{hidden, absent_value}

is_unit : (o : Option (Unit {0})) → is_some o ≡ true → o ≡ Some tt
is_unit None h = cc
is_unit (Some tt) h = refl

spread : (b : Bool) (x y : Option (Unit {0})) → is_some (cond b x y) ≡ cond b (is_some x) (is_some y)
spread true x y = refl
spread false x y = refl

-- two keys by parts
pub tied_pair : (a b : Ordering) → is_eq (ordering_then a b) ≡ (is_eq a && is_eq b)
tied_pair Less b = refl
tied_pair Equal b = refl
tied_pair Greater b = refl

module _ {K : Type 0} {R : K → K → Ordering} (o : IsTotalOrder R) where
  pub contains_insert : (s : Set R) (p q : K) → contains (insert s p) q ≡ cond (eq_by_cmp R q p) true (contains s q)
  contains_insert s p q = ap is_some (get-insert o s p tt q) ∙ spread (eq_by_cmp R q p) _ _

  pub contains_remove : (s : Set R) (p q : K) → contains (remove s p) q ≡ cond (eq_by_cmp R q p) false (contains s q)
  contains_remove s p q = ap is_some (get-remove o s p q) ∙ spread (eq_by_cmp R q p) _ _

  pub contains_put : (s : Set R) (p : K) (b : Bool) (q : K) → contains (cond b (insert s p) (remove s p)) q ≡ cond (eq_by_cmp R q p) b (contains s q)
  contains_put s p true q = contains_insert s p q
  contains_put s p false q = contains_remove s p q

  module _ (exact : IsAntisymmetric R) where
    pub at_none : {X : Type 0} (f : K → Option X) (p : K) → f p ≡ None → (q : K) → cond (eq_by_cmp R q p) None (f q) ≡ f q
    at_none f p h q =
        elim (R q p) as (λ r. R q p ≡ r → cond (is_eq r) None (f q) ≡ f q) [
          | Less ↦ λ _. refl
          | Equal ↦ λ e. sym h ∙ ap f (sym (exact q p e))
          | Greater ↦ λ _. refl
        ] refl

    -- what stands already
    pub put_same : (s : Set R) (p : K) (b : Bool) → contains s p ≡ b → cond b (insert s p) (remove s p) ≡ s
    put_same s p true h = insert_same o exact s p tt (is_unit _ h)
    put_same s p false h = same_map o exact _ _ (λ q. get-remove o s p q ∙ at_none (get s) p (absent_value _ h) q)

    -- put in and taken out again
    pub put_back : (s : Set R) (p : K) → contains s p ≡ false → remove (insert s p) p ≡ s
    put_back s p h = same_map o exact _ _ (λ q.
        get-remove o (insert s p) p q ∙ ap (cond (eq_by_cmp R q p) None) (get-insert o s p tt q)
        ∙ hidden (eq_by_cmp R q p) None (Some tt) (get s q) ∙ at_none (get s) p (absent_value _ h) q)
