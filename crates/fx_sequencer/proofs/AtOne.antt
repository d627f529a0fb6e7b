-- A map that is another one but at a key, and a set that is another one but for a key: what is told of each key goes on to hold.
use Rattle.std.proofs.Common.{◌≡◌, Bool, true, false, cond, Option, Some, None, sym, ap, refl, ◌∙◌}
use Rattle.std.specs.declared.cmp.Ordering.{Ordering}
use Rattle.std.specs.Ordering.{eq_by_cmp}
use Rattle.std.specs.Option.{option_and_then}
use Rattle.std.specs.Cmp.{IsTotalOrder}
use Rattle.std.specs.FinMap.{FinMap, IsAntisymmetric, empty, get, insert, remove, get-empty, get-insert, get-remove, same_map}
use Rattle.fx_base.specs.Projected.{projected}
use Rattle.fx_base.specs.Set as set
use Rattle.fx_base.specs.Set.{Set, contains}
use Rattle.fx_base.proofs.Cases.{hidden}
use Rattle.fx_base.proofs.Keyed.{at_key}
use Rattle.fx_base.proofs.Projected.{get-projected}
use Rattle.fx_base.proofs.SetAt.{contains_insert, contains_remove}

spread : {A B : Type 0} (f : A → B) (b : Bool) (x y : A) → cond b (f x) (f y) ≡ f (cond b x y)
spread f true x y = refl
spread f false x y = refl

either_way : {A : Type 0} (b : Bool) (x : A) → cond b x x ≡ x
either_way true x = refl
either_way false x = refl

-- n is m, but what it has at k
pub record IsBut {K X : Type 0} {R : K → K → Ordering} (m n : FinMap R X) (k : K) (here : Option X) : Type 0 where
  pub at : (q : K) → get n q ≡ cond (eq_by_cmp R q k) here (get m q)

-- t is s, but whether it has k
pub record IsButIn {K : Type 0} {R : K → K → Ordering} (s t : Set R) (k : K) (here : Bool) : Type 0 where
  pub at : (q : K) → contains t q ≡ cond (eq_by_cmp R q k) here (contains s q)

module _ {K X : Type 0} {R : K → K → Ordering} (o : IsTotalOrder R) where
  pub but_insert : (m n : FinMap R X) (k : K) (x : X) → n ≡ insert m k x → IsBut m n k (Some x)
  but_insert m n k x is = record { at = λ q. ap (λ h. get h q) is ∙ get-insert o m k x q }

  pub but_remove : (m n : FinMap R X) (k : K) → n ≡ remove m k → IsBut m n k None
  but_remove m n k is = record { at = λ q. ap (λ h. get h q) is ∙ get-remove o m k q }

-- where nothing changed
pub but_same : {K X : Type 0} {R : K → K → Ordering} → IsAntisymmetric R → (m n : FinMap R X) (k : K) → n ≡ m → IsBut m n k (get m k)
but_same exact m n k is = record { at = λ q. ap (λ h. get h q) is ∙ sym (at_key exact (get m) k q (get m k) refl) }

module _ {K : Type 0} {R : K → K → Ordering} (o : IsTotalOrder R) where
  pub in_insert : (s t : Set R) (k : K) → t ≡ set.insert s k → IsButIn s t k true
  in_insert s t k is = record { at = λ q. ap (λ h. contains h q) is ∙ contains_insert o s k q }

  pub in_remove : (s t : Set R) (k : K) → t ≡ set.remove s k → IsButIn s t k false
  in_remove s t k is = record { at = λ q. ap (λ h. contains h q) is ∙ contains_remove o s k q }

  -- where it is so already
  pub in_same : IsAntisymmetric R → (s : Set R) (k : K) (here : Bool) → contains s k ≡ here → IsButIn s s k here
  in_same exact s k here is = record { at = λ q. sym (at_key exact (contains s) k q here is) }

  -- a key that was put in stays in it, or not
  pub in_kept : (s t u : Set R) (k : K) (here : Bool) → t ≡ set.insert s k → u ≡ cond here t (set.remove t k) → IsButIn s u k here
  in_kept s t u k true put is = in_insert s u k (is ∙ put)
  in_kept s t u k false put is = record {
    at = λ q.
        ap (λ h. contains h q) is ∙ contains_remove o t k q
        ∙ ap (λ h. cond (eq_by_cmp R q k) false (contains h q)) put
        ∙ ap (cond (eq_by_cmp R q k) false) (contains_insert o s k q)
        ∙ hidden (eq_by_cmp R q k) false true (contains s q);
  }

module _ {K X A : Type 0} {R : K → K → Ordering} (f : Option X → A) (m n : FinMap R X) (k : K) (here : Option X) (but : IsBut m n k here) where
  told : (q : K) → cond (eq_by_cmp R q k) (f here) (f (get m q)) ≡ f (get n q)
  told q = spread f (eq_by_cmp R q k) here (get m q) ∙ ap f (sym (but.at q))

  -- what holds of all
  pub all_at : (v : A) → f here ≡ v → ((q : K) → f (get m q) ≡ v) → (q : K) → f (get n q) ≡ v
  all_at v is was q = sym (told q) ∙ (λ i. cond (eq_by_cmp R q k) (is i) (was q i)) ∙ either_way (eq_by_cmp R q k) v

  -- what stays as it is at each key
  pub still_at : IsAntisymmetric R → (g : K → A) → f here ≡ f (get m k) → ((q : K) → g q ≡ f (get m q)) → (q : K) → g q ≡ f (get n q)
  still_at exact g same was q = was q ∙ sym (at_key exact (λ j. f (get m j)) k q (f here) (sym same)) ∙ told q

module _ {K X : Type 0} {R : K → K → Ordering} (f : Option X → Bool) (m n : FinMap R X) (k : K) (here : Option X) (but : IsBut m n k here) where
  -- what a set says of each key
  pub told_at : (s t : Set R) (b : Bool) → IsButIn s t k b → b ≡ f here → ((q : K) → contains s q ≡ f (get m q)) → (q : K) → contains t q ≡ f (get n q)
  told_at s t b put is was q = put.at q ∙ (λ i. cond (eq_by_cmp R q k) (is i) (was q i)) ∙ told f m n k here but q

-- ---- a part of the values

module _ {K X Y : Type 0} {R : K → K → Ordering} (o : IsTotalOrder R) (exact : IsAntisymmetric R) (part : X → Option Y) (m n : FinMap R X) (k : K) (here : Option X) (but : IsBut m n k here) where
  part_at : (q : K) → get (projected part n) q ≡ cond (eq_by_cmp R q k) (option_and_then part here) (get (projected part m) q)
  part_at q =
      get-projected part n exact q ∙ sym (told (option_and_then part) m n k here but q)
      ∙ ap (cond (eq_by_cmp R q k) (option_and_then part here)) (sym (get-projected part m exact q))

  pub part_put : (y : Y) → option_and_then part here ≡ Some y → projected part n ≡ insert (projected part m) k y
  part_put y is = same_map o exact _ _ (λ q.
      part_at q ∙ ap (λ h. cond (eq_by_cmp R q k) h (get (projected part m) q)) is ∙ sym (get-insert o (projected part m) k y q))

  pub part_gone : option_and_then part here ≡ None → projected part n ≡ remove (projected part m) k
  part_gone is = same_map o exact _ _ (λ q.
      part_at q ∙ ap (λ h. cond (eq_by_cmp R q k) h (get (projected part m) q)) is ∙ sym (get-remove o (projected part m) k q))

  pub part_still : option_and_then part here ≡ option_and_then part (get m k) → projected part n ≡ projected part m
  part_still same = same_map o exact _ _ (λ q.
      part_at q ∙ at_key exact (get (projected part m)) k q (option_and_then part here) (get-projected part m exact k ∙ sym same))

-- no part of nothing
pub part_none : {K X Y : Type 0} {R : K → K → Ordering} → IsTotalOrder R → IsAntisymmetric R → (part : X → Option Y) (m : FinMap R X) → m ≡ empty → projected part m ≡ empty
part_none {R = R} o exact part m is = same_map o exact _ _ (λ q.
    get-projected part m exact q ∙ ap (option_and_then part) (ap (λ h. get h q) is ∙ get-empty R q) ∙ sym (get-empty R q))
