-- Finite maps after a removal and an insertion at one key.
use Rattle.std.proofs.Common.{◌≡◌, true, false, cond, Option, Some, None, is_some, refl, sym, ap, ◌∙◌}
use Rattle.std.specs.declared.cmp.Ordering.{Ordering}
use Rattle.std.specs.Ordering.{eq_by_cmp, is_eq}
use Rattle.std.specs.Cmp.{IsTotalOrder, tied_itself}
use Rattle.std.specs.FinMap.{FinMap, IsAntisymmetric, get, insert, remove, get-insert, get-remove, same_map}
use Rattle.fx_base.specs.Set as set
use Rattle.fx_base.proofs.AtKey.{insert_removed}
use Rattle.fx_base.proofs.Keyed.{at_key}
use Rattle.fx_base.proofs.Cases.{hidden}

module _ {K X : Type 0} {R : K → K → Ordering} (o : IsTotalOrder R) (exact : IsAntisymmetric R) where
  pub remove_inserted : (m : FinMap R X) (k : K) (v : X) → remove (insert m k v) k ≡ remove m k
  remove_inserted m k v = same_map o exact _ _ (λ q.
      get-remove o (insert m k v) k q ∙ ap (cond (eq_by_cmp R q k) None) (get-insert o m k v q)
      ∙ hidden (eq_by_cmp R q k) None (Some v) (get m q) ∙ sym (get-remove o m k q))

  -- what was there, put back
  pub insert_back : (m : FinMap R X) (k : K) (v : X) → get m k ≡ Some v → m ≡ insert (remove m k) k v
  insert_back m k v h = same_map o exact _ _ (λ q. sym (at_key exact (get m) k q (Some v) h) ∙ sym (get-insert o m k v q)) ∙ sym (insert_removed o exact m k v)

unit_there : (x : Option (Unit {0})) → is_some x ≡ true → x ≡ Some tt
unit_there None h = cc
unit_there (Some tt) h = refl

module _ {K : Type 0} {R : K → K → Ordering} (o : IsTotalOrder R) where
  pub set_removed : (s : set.Set R) (k : K) → set.contains (set.remove s k) k ≡ false
  set_removed s k = ap is_some (get-remove o s k k ∙ ap (λ r. cond (is_eq r) None (get s k)) (tied_itself o k))

  -- what was there, put back
  pub set_back : IsAntisymmetric R → (s : set.Set R) (k : K) → set.contains s k ≡ true → s ≡ set.insert (set.remove s k) k
  set_back exact s k h = insert_back o exact s k tt (unit_there (get s k) h)
