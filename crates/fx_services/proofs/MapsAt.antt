-- What a map has at a key after a change, by whether the key is the one that changes.
use Rattle.std.proofs.Common.{◌≡◌, ◌⊎◌, inl, inr, cond, Some, None, refl, sym, ap, ◌∙◌, subst}
use Rattle.std.specs.Prelude.{option_map}
use Rattle.std.specs.Ordering.{is_eq}
use Rattle.std.specs.declared.cmp.Ordering.{Ordering}
use Rattle.std.specs.declared.cmp.Ordering.TheVariants.{Less, Equal, Greater}
use Rattle.std.specs.Cmp.{IsTotalOrder, tied_itself}
use Rattle.std.specs.FinMap.{FinMap, IsAntisymmetric, get, insert, remove, get-insert, get-remove}

module _ {K : Type 0} {R : K → K → Ordering} (o : IsTotalOrder R) (exact : IsAntisymmetric R) where
  not_less : (q k : K) → R q k ≡ Less → q ≡ k → ⊥
  not_less q k e same = (let tied : R q k ≡ Equal = ap (R q) (sym same) ∙ tied_itself o q in let contrary : Less ≡ Equal = sym e ∙ tied in cc)

  not_greater : (q k : K) → R q k ≡ Greater → q ≡ k → ⊥
  not_greater q k e same = (let tied : R q k ≡ Equal = ap (R q) (sym same) ∙ tied_itself o q in let contrary : Greater ≡ Equal = sym e ∙ tied in cc)

  -- one key or two
  pub alike_or_apart : (q k : K) → (q ≡ k) ⊎ (q ≡ k → ⊥)
  alike_or_apart q k =
      elim (R q k) as (λ r. R q k ≡ r → (q ≡ k) ⊎ (q ≡ k → ⊥)) [
        | Less ↦ λ e. inr (not_less q k e)
        | Equal ↦ λ e. inl (exact q k e)
        | Greater ↦ λ e. inr (not_greater q k e)
      ] refl

  module _ {X : Type 0} (m : FinMap R X) where
    pub get-same : (k : K) (v : X) → get (insert m k v) k ≡ Some v
    get-same k v = get-insert o m k v k ∙ ap (λ r. cond (is_eq r) (Some v) (get m k)) (tied_itself o k)

    pub get-other : (k : K) (v : X) (q : K) → (q ≡ k → ⊥) → get (insert m k v) q ≡ get m q
    get-other k v q apart =
        get-insert o m k v q
        ∙ elim (R q k) as (λ r. R q k ≡ r → cond (is_eq r) (Some v) (get m q) ≡ get m q) [
          | Less ↦ λ e. refl
          | Equal ↦ λ e. absurd (apart (exact q k e))
          | Greater ↦ λ e. refl
        ] refl

    pub get-removed : (k : K) → get (remove m k) k ≡ None
    get-removed k = get-remove o m k k ∙ ap (λ r. cond (is_eq r) None (get m k)) (tied_itself o k)

    pub get-left : (k q : K) → (q ≡ k → ⊥) → get (remove m k) q ≡ get m q
    get-left k q apart =
        get-remove o m k q
        ∙ elim (R q k) as (λ r. R q k ≡ r → cond (is_eq r) None (get m q) ≡ get m q) [
          | Less ↦ λ e. refl
          | Equal ↦ λ e. absurd (apart (exact q k e))
          | Greater ↦ λ e. refl
        ] refl

    -- what holds of all that is there, and of what is put in, holds of all that is there then
    pub insert-all : (P Q : K → X → Type 0) (k : K) (v : X) → Q k v → ((q : K) (x : X) → (q ≡ k → ⊥) → P q x → Q q x) → ((q : K) (x : X) → get m q ≡ Some x → P q x) → (q : K) (x : X) → get (insert m k v) q ≡ Some x → Q q x
    insert-all P Q k v here others all q x there = by (alike_or_apart q k)
      where
        by : (q ≡ k) ⊎ (q ≡ k → ⊥) → Q q x
        by (inl same) =
            let value : Some v ≡ Some x = sym (get-same k v) ∙ (ap (get (insert m k v)) (sym same) ∙ there) in
            let one : v ≡ x = cc in
            subst (λ (y : X). Q q y) one (subst (λ (r : K). Q r v) (sym same) here)
        by (inr apart) = others q x apart (all q x (sym (get-other k v q apart) ∙ there))

    pub remove-all : (P Q : K → X → Type 0) (k : K) → ((q : K) (x : X) → (q ≡ k → ⊥) → P q x → Q q x) → ((q : K) (x : X) → get m q ≡ Some x → P q x) → (q : K) (x : X) → get (remove m k) q ≡ Some x → Q q x
    remove-all P Q k others all q x there = by (alike_or_apart q k)
      where
        by : (q ≡ k) ⊎ (q ≡ k → ⊥) → Q q x
        by (inl same) =
            let none : None ≡ Some x = sym (get-removed k) ∙ (ap (get (remove m k)) (sym same) ∙ there) in cc
        by (inr apart) = others q x apart (all q x (sym (get-left k q apart) ∙ there))

  -- ---- a map that has the values of another, changed

  module _ {X Y : Type 0} (m : FinMap R X) (n : FinMap R Y) (g h : K → Y → X) (was : (q : K) → get m q ≡ option_map (g q) (get n q)) where
    pub put-on : (k : K) (x : X) (y : Y) → x ≡ h k y → ((q : K) → (q ≡ k → ⊥) → g q ≡ h q) → (q : K) → get (insert m k x) q ≡ option_map (h q) (get (insert n k y) q)
    put-on k x y value same q = by (alike_or_apart q k)
      where
        by : (q ≡ k) ⊎ (q ≡ k → ⊥) → get (insert m k x) q ≡ option_map (h q) (get (insert n k y) q)
        by (inl one) =
            let P : K → Type 0 = λ r. get (insert m k x) r ≡ option_map (h r) (get (insert n k y) r) in
            subst P (sym one) (get-same m k x ∙ (ap Some value ∙ sym (ap (option_map (h k)) (get-same n k y))))
        by (inr apart) =
            get-other m k x q apart
            ∙ (was q ∙ ((λ i. option_map (same q apart i) (get n q)) ∙ sym (ap (option_map (h q)) (get-other n k y q apart))))

    pub remove-on : (k : K) → ((q : K) → (q ≡ k → ⊥) → g q ≡ h q) → (q : K) → get (remove m k) q ≡ option_map (h q) (get (remove n k) q)
    remove-on k same q = by (alike_or_apart q k)
      where
        by : (q ≡ k) ⊎ (q ≡ k → ⊥) → get (remove m k) q ≡ option_map (h q) (get (remove n k) q)
        by (inl one) =
            let P : K → Type 0 = λ r. get (remove m k) r ≡ option_map (h r) (get (remove n k) r) in
            subst P (sym one) (get-removed m k ∙ sym (ap (option_map (h k)) (get-removed n k)))
        by (inr apart) =
            get-left m k q apart
            ∙ (was q ∙ ((λ i. option_map (same q apart i) (get n q)) ∙ sym (ap (option_map (h q)) (get-left n k q apart))))
