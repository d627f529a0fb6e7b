-- Maps that differ at one key.
use Rattle.std.proofs.Common.{◌≡◌, false, cond, Option, Some, None, refl, sym, ap, ◌∙◌, subst}
use Rattle.std.specs.declared.cmp.Ordering.{Ordering}
use Rattle.std.specs.declared.cmp.Ordering.TheVariants.{Less, Equal, Greater}
use Rattle.std.specs.Ordering.{is_eq, eq_by_cmp}
use Rattle.std.specs.Cmp.{IsTotalOrder, tied_itself}
use Rattle.std.specs.FinMap.{FinMap, IsAntisymmetric, get, insert, remove, get-insert, get-remove, same_map}
use Rattle.fx_base.proofs.SetAt.{at_none}

module _ {K : Type 0} {R : K → K → Ordering} (o : IsTotalOrder R) (exact : IsAntisymmetric R) where
  -- what holds at a key and at all others holds at each
  pub at_each : (P : K → Type 0) (k : K) → P k → ((q : K) → eq_by_cmp R q k ≡ false → P q) → (q : K) → P q
  at_each P k here there q =
      elim (R q k) as (λ r. R q k ≡ r → P q) [
        | Less ↦ λ p. there q (ap is_eq p)
        | Equal ↦ λ p. subst P (sym (exact q k p)) here
        | Greater ↦ λ p. there q (ap is_eq p)
      ] refl

  module _ {X : Type 0} where
    pub here_inserted : (m : FinMap R X) (k : K) (v : X) → get (insert m k v) k ≡ Some v
    here_inserted m k v = get-insert o m k v k ∙ ap (λ r. cond (is_eq r) (Some v) (get m k)) (tied_itself o k)

    pub here_removed : (m : FinMap R X) (k : K) → get (remove m k) k ≡ None
    here_removed m k = get-remove o m k k ∙ ap (λ r. cond (is_eq r) None (get m k)) (tied_itself o k)

    pub there_inserted : (m : FinMap R X) (k : K) (v : X) (q : K) → eq_by_cmp R q k ≡ false → get (insert m k v) q ≡ get m q
    there_inserted m k v q h = get-insert o m k v q ∙ ap (λ b. cond b (Some v) (get m q)) h

    pub there_removed : (m : FinMap R X) (k : K) (q : K) → eq_by_cmp R q k ≡ false → get (remove m k) q ≡ get m q
    there_removed m k q h = get-remove o m k q ∙ ap (λ b. cond b None (get m q)) h

    -- what isn't there can't be removed
    pub remove_missing : (m : FinMap R X) (k : K) → get m k ≡ None → remove m k ≡ m
    remove_missing m k h = same_map o exact _ _ (λ q. get-remove o m k q ∙ at_none o exact (get m) k h q)

    -- a map that is known at each key is so after a change at one of them
    module _ (F G : K → Option X) (m : FinMap R X) (k : K) (was : (q : K) → get m q ≡ F q) (others : (q : K) → eq_by_cmp R q k ≡ false → G q ≡ F q) where
      pub known_inserted : (v : X) → G k ≡ Some v → (q : K) → get (insert m k v) q ≡ G q
      known_inserted v h = at_each (λ q. get (insert m k v) q ≡ G q) k (here_inserted m k v ∙ sym h) (λ q other. there_inserted m k v q other ∙ was q ∙ sym (others q other))

      pub known_removed : G k ≡ None → (q : K) → get (remove m k) q ≡ G q
      known_removed h = at_each (λ q. get (remove m k) q ≡ G q) k (here_removed m k ∙ sym h) (λ q other. there_removed m k q other ∙ was q ∙ sym (others q other))

    -- what holds of all keys that are there holds after a change
    pub keys_inserted : (P : K → Type 0) (m : FinMap R X) (k : K) (v : X) → P k → ((q : K) (x : X) → get m q ≡ Some x → P q) → (q : K) (x : X) → get (insert m k v) q ≡ Some x → P q
    keys_inserted P m k v here was = at_each (λ q. (x : X) → get (insert m k v) q ≡ Some x → P q) k (λ x e. here) (λ q other x e. was q x (sym (there_inserted m k v q other) ∙ e))

    pub keys_removed : (P : K → Type 0) (m : FinMap R X) (k : K) → ((q : K) (x : X) → get m q ≡ Some x → P q) → (q : K) (x : X) → get (remove m k) q ≡ Some x → P q
    keys_removed P m k was = at_each (λ q. (x : X) → get (remove m k) q ≡ Some x → P q) k
        (λ x e. let wrong : None ≡ Some x = sym (here_removed m k) ∙ e in cc)
        (λ q other x e. was q x (sym (there_removed m k q other) ∙ e))
