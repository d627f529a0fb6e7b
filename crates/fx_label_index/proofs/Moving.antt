-- What stands under the parts of a value, as the value at one key comes or goes.
use Rattle.std.proofs.Common.{◌≡◌, Bool, true, false, cond, ◌&&◌, Option, Some, None, refl, sym, ap, ◌∙◌}
use Rattle.std.specs.declared.cmp.Ordering.{Ordering}
use Rattle.std.specs.declared.cmp.Ordering.TheVariants.{Less, Equal, Greater}
use Rattle.std.specs.Ordering.{is_eq, eq_by_cmp}
use Rattle.std.specs.Cmp.{IsTotalOrder}
use Rattle.std.specs.FinMap.{FinMap, IsAntisymmetric, get, insert, remove, get-insert, get-remove}
use Rattle.fx_base.proofs.SetAt.{at_none}

module _ {K X A : Type 0} {R : K → K → Ordering} (o : IsTotalOrder R) (exact : IsAntisymmetric R) (f : Option X → A → Bool) (none : (a : A) → f None a ≡ false) (m : FinMap R X) (key : K) where
  gone : (b c : Bool) → b ≡ c → cond (b && true) false c ≡ false
  gone true c h = refl
  gone false c h = sym h

  elsewhere : (b s c : Bool) → cond (b && false) s c ≡ c
  elsewhere true s c = refl
  elsewhere false s c = refl

  -- the value that stood at the key is taken from where it stood
  pub taken : (x : X) (n : FinMap R X) (old new : A → K → Bool) → get m key ≡ Some x → n ≡ remove m key → ((a : A) (k : K) → old a k ≡ f (get m k) a) → ((a : A) (k : K) → new a k ≡ cond (f (Some x) a && eq_by_cmp R k key) false (old a k)) → (a : A) (k : K) → new a k ≡ f (get n k) a
  taken x n old new there is stood step a k =
      step a k
      ∙ elim (R k key) as (λ r. R k key ≡ r → cond (f (Some x) a && is_eq r) false (old a k) ≡ f (cond (is_eq r) None (get m k)) a) [
        | Less ↦ λ e. elsewhere (f (Some x) a) false (old a k) ∙ stood a k
        | Greater ↦ λ e. elsewhere (f (Some x) a) false (old a k) ∙ stood a k
        | Equal ↦ λ e. gone (f (Some x) a) (old a k) (sym (stood a k ∙ ap (λ q. f (get m q) a) (exact k key e) ∙ ap (λ v. f v a) there)) ∙ sym (none a)
      ] refl
      ∙ ap (λ v. f v a) (sym (get-remove o m key k)) ∙ ap (λ l. f (get l k) a) (sym is)

  -- nothing stood at the key
  pub none_taken : (n : FinMap R X) (old : A → K → Bool) → get m key ≡ None → n ≡ remove m key → ((a : A) (k : K) → old a k ≡ f (get m k) a) → (a : A) (k : K) → old a k ≡ f (get n k) a
  none_taken n old absent is stood a k =
      stood a k ∙ ap (λ v. f v a) (sym (at_none o exact (get m) key absent k)) ∙ ap (λ v. f v a) (sym (get-remove o m key k)) ∙ ap (λ l. f (get l k) a) (sym is)

  here : (b : Bool) → cond (b && true) true false ≡ b
  here true = refl
  here false = refl

  -- a value comes where none stood
  pub come : (x : X) (n : FinMap R X) (old new : A → K → Bool) → get m key ≡ None → n ≡ insert m key x → ((a : A) (k : K) → old a k ≡ f (get m k) a) → ((a : A) (k : K) → new a k ≡ cond (f (Some x) a && eq_by_cmp R k key) true (old a k)) → (a : A) (k : K) → new a k ≡ f (get n k) a
  come x n old new absent is stood step a k =
      step a k
      ∙ elim (R k key) as (λ r. R k key ≡ r → cond (f (Some x) a && is_eq r) true (old a k) ≡ f (cond (is_eq r) (Some x) (get m k)) a) [
        | Less ↦ λ e. elsewhere (f (Some x) a) true (old a k) ∙ stood a k
        | Greater ↦ λ e. elsewhere (f (Some x) a) true (old a k) ∙ stood a k
        | Equal ↦ λ e. ap (cond (f (Some x) a && true) true) (stood a k ∙ ap (λ q. f (get m q) a) (exact k key e) ∙ ap (λ v. f v a) absent ∙ none a) ∙ here (f (Some x) a)
      ] refl
      ∙ ap (λ v. f v a) (sym (get-insert o m key x k)) ∙ ap (λ l. f (get l k) a) (sym is)
