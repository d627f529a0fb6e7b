-- A log of touched keys goes on.
use Rattle.std.proofs.Common.{◌≡◌, cond, Option, Some, None, sym, ap, ◌∙◌}
use Rattle.std.specs.declared.cmp.Ordering.{Ordering}
use Rattle.std.specs.declared.cmp.Ordering.TheVariants.{Less, Equal, Greater}
use Rattle.std.specs.Ordering.{is_eq, eq_by_cmp}
use Rattle.std.specs.Cmp.{IsTotalOrder}
use Rattle.std.specs.FinMap.{FinMap, get, insert, get-insert}
use Rattle.fx_logs.specs.Touched.{Keys, IsTouched}

no_unit : (x : Unit {0}) → Some x ≡ None → ⊥
no_unit x e = cc

module _ {K X : Type 0} {R : K → K → Ordering} (o : IsTotalOrder R) where
  -- one is touched
  pub touched_more : (touched after : Keys R) (start now : FinMap R X) (k : K) → IsTouched touched start now → after ≡ insert touched k tt → IsTouched after start now
  touched_more touched after start now k h made = record {
    at = λ q e.
        elim (R q k) as (λ r. cond (is_eq r) (Some tt) (get touched q) ≡ None → get start q ≡ get now q) [
          | Less ↦ λ p. h.at q p
          | Greater ↦ λ p. h.at q p
          | Equal ↦ λ p. absurd (no_unit tt p)
        ] (sym (ap (λ m. get m q) made ∙ get-insert o touched k tt q) ∙ e);
  }

  -- one is touched and changes
  pub touched_set : (touched after : Keys R) (start now next : FinMap R X) (k : K) (x : Option X) → IsTouched touched start now → after ≡ insert touched k tt → ((q : K) → get next q ≡ cond (eq_by_cmp R q k) x (get now q)) → IsTouched after start next
  touched_set touched after start now next k x h made change = record {
    at = λ q e.
        elim (R q k) as (λ r. cond (is_eq r) (Some tt) (get touched q) ≡ None → get start q ≡ cond (is_eq r) x (get now q)) [
          | Less ↦ λ p. h.at q p
          | Greater ↦ λ p. h.at q p
          | Equal ↦ λ p. absurd (no_unit tt p)
        ] (sym (ap (λ m. get m q) made ∙ get-insert o touched k tt q) ∙ e)
        ∙ sym (change q);
  }
