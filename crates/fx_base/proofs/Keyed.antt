-- Finite maps and sets under keys, as one is put or removed.
use Rattle.std.proofs.Common.{◌≡◌, Bool, true, false, cond, ◌&&◌, [], Option, Some, None, is_some, unwrap_or, refl, sym, ap, ◌∙◌}
use Rattle.std.specs.declared.cmp.Ordering.{Ordering}
use Rattle.std.specs.declared.cmp.Ordering.TheVariants.{Less, Equal, Greater}
use Rattle.std.specs.Ordering.{eq_by_cmp, is_eq}
use Rattle.std.specs.Cmp.{IsTotalOrder, tied_itself}
use Rattle.std.specs.FinMap as map
use Rattle.std.specs.FinMap.{FinMap, IsAntisymmetric}
use Rattle.fx_base.specs.Set as set
use Rattle.fx_base.proofs.Entries.{entries-empty}
use Rattle.fx_base.proofs.SetAt.{contains_insert, contains_remove}
use Rattle.fx_base.specs.Grouped.{Grouped, has_key}
use Rattle.fx_base.proofs.Cases.{hidden, equal}

-- a map without entries
pub no_entries : {K X : Type 0} {R : K → K → Ordering} (m : FinMap R X) → map.entries m ≡ [] → m ≡ map.empty
no_entries {R = R} m h = map.same_entries_map m map.empty (h ∙ sym (entries-empty R))

module _ {K : Type 0} {R : K → K → Ordering} (o : IsTotalOrder R) where
  pub own_key : (k : K) → eq_by_cmp R k k ≡ true
  own_key k = ap is_eq (tied_itself o k)

module _ {K : Type 0} {R : K → K → Ordering} (exact : IsAntisymmetric R) where
  pub one_key : (q k : K) → eq_by_cmp R q k ≡ true → q ≡ k
  one_key q k h = exact q k (equal (R q k) h)

  -- a value at a key
  pub at_key : {A : Type 0} (f : K → A) (k q : K) (x : A) → f k ≡ x → cond (eq_by_cmp R q k) x (f q) ≡ f q
  at_key f k q x h =
      elim (R q k) as (λ r. R q k ≡ r → cond (is_eq r) x (f q) ≡ f q) [
        | Less ↦ λ e. refl
        | Equal ↦ λ e. sym h ∙ ap f (sym (exact q k e))
        | Greater ↦ λ e. refl
      ] refl

  -- what depends on the key
  pub by_key : {A : Type 0} (f : K → A) (k q : K) (x : A) → cond (eq_by_cmp R q k) (f k) x ≡ cond (eq_by_cmp R q k) (f q) x
  by_key f k q x =
      elim (R q k) as (λ r. R q k ≡ r → cond (is_eq r) (f k) x ≡ cond (is_eq r) (f q) x) [
        | Less ↦ λ e. refl
        | Equal ↦ λ e. ap f (sym (exact q k e))
        | Greater ↦ λ e. refl
      ] refl

module _ {K X : Type 0} {R : K → K → Ordering} (o : IsTotalOrder R) where
  pub get_removed : (m : FinMap R X) (k : K) → map.get (map.remove m k) k ≡ None
  get_removed m k = map.get-remove o m k k ∙ ap (λ r. cond (is_eq r) None (map.get m k)) (tied_itself o k)

  pub get_inserted : (m : FinMap R X) (k : K) (v : X) → map.get (map.insert m k v) k ≡ Some v
  get_inserted m k v = map.get-insert o m k v k ∙ ap (λ r. cond (is_eq r) (Some v) (map.get m k)) (tied_itself o k)

  module _ (exact : IsAntisymmetric R) where
    -- what isn't there
    pub remove_absent : (m : FinMap R X) (k : K) → map.get m k ≡ None → map.remove m k ≡ m
    remove_absent m k h = map.same_map o exact _ _ (λ q. map.get-remove o m k q ∙ at_key exact (map.get m) k q None h)

-- ---- sets of keys under keys

module _ {K L : Type 0} {R : K → K → Ordering} {Q : L → L → Ordering} (outer : IsTotalOrder R) (exact : IsAntisymmetric R) (inner : IsTotalOrder Q) where
  some_keys : (b : Bool) (keys : set.Set Q) (o : Option (set.Set Q)) (q : L) → has_key (cond b (Some keys) o) q ≡ cond b (set.contains keys q) (has_key o q)
  some_keys true keys o q = refl
  some_keys false keys o q = refl

  no_keys : (b : Bool) (o : Option (set.Set Q)) (q : L) → has_key (cond b None o) q ≡ cond b false (has_key o q)
  no_keys true o q = refl
  no_keys false o q = refl

  has_insert : (m : Grouped R Q) (k : K) (keys : set.Set Q) (t : K) (q : L) → has_key (map.get (map.insert m k keys) t) q ≡ cond (eq_by_cmp R t k) (set.contains keys q) (has_key (map.get m t) q)
  has_insert m k keys t q = ap (λ o. has_key o q) (map.get-insert outer m k keys t) ∙ some_keys (eq_by_cmp R t k) keys (map.get m t) q

  has_remove : (m : Grouped R Q) (k t : K) (q : L) → has_key (map.get (map.remove m k) t) q ≡ cond (eq_by_cmp R t k) false (has_key (map.get m t) q)
  has_remove m k t q = ap (λ o. has_key o q) (map.get-remove outer m k t) ∙ no_keys (eq_by_cmp R t k) (map.get m t) q

  both : {A : Type 0} (a b : Bool) (x y z : A) → cond a y z ≡ z → cond a (cond b x y) z ≡ cond (a && b) x z
  both true true x y z h = refl
  both true false x y z h = h
  both false b x y z h = refl

  none_in : (q : L) → set.contains {R = Q} set.empty q ≡ false
  none_in q = ap is_some (map.get-empty Q q)

  pub keys_in : (o : Option (set.Set Q)) (q : L) → set.contains (unwrap_or o set.empty) q ≡ has_key o q
  keys_in None q = none_in q
  keys_in (Some keys) q = refl

  module _ (m now : Grouped R Q) (k : K) (id : L) (keys : set.Set Q) (was : keys ≡ unwrap_or (map.get m k) set.empty) where
    own_keys : (t : K) (q : L) → cond (eq_by_cmp R t k) (set.contains keys q) (has_key (map.get m t) q) ≡ has_key (map.get m t) q
    own_keys t q = at_key exact (λ u. has_key (map.get m u) q) k t (set.contains keys q) (sym (keys_in (map.get m k) q) ∙ ap (λ s. set.contains s q) (sym was))

    pub key_added : now ≡ map.insert (map.remove m k) k (set.insert keys id) → (t : K) (q : L) → has_key (map.get now t) q ≡ cond (eq_by_cmp R t k && eq_by_cmp Q q id) true (has_key (map.get m t) q)
    key_added is t q =
        ap (λ n. has_key (map.get n t) q) is ∙ has_insert (map.remove m k) k (set.insert keys id) t q
        ∙ ap (cond (eq_by_cmp R t k) (set.contains (set.insert keys id) q)) (has_remove m k t q)
        ∙ hidden (eq_by_cmp R t k) (set.contains (set.insert keys id) q) false (has_key (map.get m t) q)
        ∙ ap (λ b. cond (eq_by_cmp R t k) b (has_key (map.get m t) q)) (contains_insert inner keys id q)
        ∙ both (eq_by_cmp R t k) (eq_by_cmp Q q id) true (set.contains keys q) (has_key (map.get m t) q) (own_keys t q)

    less : (t : K) (q : L) → cond (eq_by_cmp R t k) (set.contains (set.remove keys id) q) (has_key (map.get m t) q) ≡ cond (eq_by_cmp R t k && eq_by_cmp Q q id) false (has_key (map.get m t) q)
    less t q =
        ap (λ b. cond (eq_by_cmp R t k) b (has_key (map.get m t) q)) (contains_remove inner keys id q)
        ∙ both (eq_by_cmp R t k) (eq_by_cmp Q q id) false (set.contains keys q) (has_key (map.get m t) q) (own_keys t q)

    pub key_removed : now ≡ map.insert (map.remove m k) k (set.remove keys id) → (t : K) (q : L) → has_key (map.get now t) q ≡ cond (eq_by_cmp R t k && eq_by_cmp Q q id) false (has_key (map.get m t) q)
    key_removed is t q =
        ap (λ n. has_key (map.get n t) q) is ∙ has_insert (map.remove m k) k (set.remove keys id) t q
        ∙ ap (cond (eq_by_cmp R t k) (set.contains (set.remove keys id) q)) (has_remove m k t q)
        ∙ hidden (eq_by_cmp R t k) (set.contains (set.remove keys id) q) false (has_key (map.get m t) q)
        ∙ less t q

    pub last_removed : map.entries (set.remove keys id) ≡ [] → now ≡ map.remove m k → (t : K) (q : L) → has_key (map.get now t) q ≡ cond (eq_by_cmp R t k && eq_by_cmp Q q id) false (has_key (map.get m t) q)
    last_removed none is t q =
        ap (λ n. has_key (map.get n t) q) is ∙ has_remove m k t q
        ∙ ap (λ b. cond (eq_by_cmp R t k) b (has_key (map.get m t) q)) (sym (ap is_some (map.get-entries (set.remove keys id) q ∙ ap (map.find Q q) none)))
        ∙ less t q
