-- A map whose entries stand in another one under keys of their own, as an entry is put or removed.
use Rattle.std.proofs.Common.{◌≡◌, ℕ, true, false, cond, List, [], ◌∷◌, map, Option, Some, None, IsSome, refl, sym, ap, ◌∙◌, subst}
use Rattle.std.specs.List.{AllByRecursion, find}
use Rattle.std.specs.declared.cmp.Ordering.{Ordering}
use Rattle.std.specs.declared.cmp.Ordering.TheVariants.{Less, Equal, Greater}
use Rattle.std.specs.Ordering.{is_eq, eq_by_cmp}
use Rattle.std.specs.Cmp.{IsTotalOrder, tied_itself}
use Rattle.std.specs.FinMap as maps
use Rattle.std.specs.FinMap.{FinMap, IsAntisymmetric}
use Rattle.fx_base.specs.Extended.{extended, collected}
use Rattle.fx_base.proofs.AtKey.{get_insert, get_insert_same, get_remove, get_empty, same_by_get}
use Rattle.fx_base.proofs.Found.{each, of_found, found_passes, all_fail, entries_found, of_entries}
use Rattle.fx_model.specs.Messages.{Named}
use Rattle.fx_scanner.specs.Uses.{same_text}
use Rattle.fx_scanner.proofs.Texts.{one_text, from_one, other_text, not_both, whether}
use Rattle.fx_base.proofs.Cases.{equal, same_some, none_some}

module _ {K : Type 0} {R : K → K → Ordering} (exact : IsAntisymmetric R) where
  pub one_key : (j k : K) → eq_by_cmp R j k ≡ true → j ≡ k
  one_key j k h = exact j k (equal (R j k) h)

module _ {K : Type 0} {R : K → K → Ordering} (o : IsTotalOrder R) where
  pub own_key : (k : K) → eq_by_cmp R k k ≡ true
  own_key k = ap is_eq (tied_itself o k)

module _ {K X : Type 0} {R : K → K → Ordering} (o : IsTotalOrder R) where
  module _ (m : FinMap R X) (k : K) where
    pub get_put : (x : X) → maps.get (maps.insert m k x) k ≡ Some x
    get_put x = maps.get-insert o m k x k ∙ ap (λ b. cond b (Some x) (maps.get m k)) (ap is_eq (tied_itself o k))

    pub other_put : (x : X) (j : K) → eq_by_cmp R j k ≡ false → maps.get (maps.insert m k x) j ≡ maps.get m j
    other_put x j other = maps.get-insert o m k x j ∙ ap (λ b. cond b (Some x) (maps.get m j)) other

    pub other_left : (j : K) → eq_by_cmp R j k ≡ false → maps.get (maps.remove m k) j ≡ maps.get m j
    other_left j other = maps.get-remove o m k j ∙ ap (λ b. cond b None (maps.get m j)) other

    -- what is left is another one, and was there
    pub left_other : (j : K) (y : X) → maps.get (maps.remove m k) j ≡ Some y → (eq_by_cmp R j k ≡ false) × (maps.get m j ≡ Some y)
    left_other j y is =
        elim (eq_by_cmp R j k) as (λ b. eq_by_cmp R j k ≡ b → cond b None (maps.get m j) ≡ Some y → (eq_by_cmp R j k ≡ false) × (maps.get m j ≡ Some y)) [
          | true ↦ λ h e. none_some y e
          | false ↦ λ h e. (h, e)
        ] refl (sym (maps.get-remove o m k j) ∙ is)

    -- what is left is there after another value is put as well
    pub left_put : (x : X) (j : K) (y : X) → maps.get (maps.remove m k) j ≡ Some y → maps.get (maps.insert m k x) j ≡ Some y
    left_put x j y is = let other = left_other j y is in other_put x j other.0 ∙ other.1

    -- without what isn't there
    pub remove_absent : IsAntisymmetric R → maps.get m k ≡ None → maps.remove m k ≡ m
    remove_absent exact none = maps.same_map o exact (maps.remove m k) m (λ j.
        maps.get-remove o m k j
        ∙ whether (eq_by_cmp R j k)
        (λ h. ap (λ b. cond b None (maps.get m j)) h ∙ sym (ap (maps.get m) (one_key exact j k h) ∙ none))
        (λ h. ap (λ b. cond b None (maps.get m j)) h))

module _ {K X Y : Type 0} {R : K → K → Ordering} (o : IsTotalOrder R) (exact : IsAntisymmetric R) (key : K → List ℕ) (value : K → X → Y) where
  abbrev pub entry : K × X → List ℕ × Y
  entry x = (key x.0, value x.0 x.1)

  abbrev pub all_in : FinMap R X → Named Y
  all_in m = collected (map entry (maps.entries m))

  -- entries of one key are of one
  abbrev pub HaveOwnKeys : FinMap R X → Type 0
  HaveOwnKeys m = (j k : K) (x y : X) → maps.get m j ≡ Some x → maps.get m k ≡ Some y → key j ≡ key k → j ≡ k

  -- each entry is there, and nothing else
  pub record AreAll (m : FinMap R X) (all : Named Y) : Type 0 where
    pub there : (k : K) (x : X) → maps.get m k ≡ Some x → maps.get all (key k) ≡ Some (value k x)
    pub others : (q : List ℕ) → ((k : K) (x : X) → maps.get m k ≡ Some x → key k ≡ q → ⊥) → maps.get all q ≡ None

  -- ---- what the collected map has

  none_at : (es : List (K × X)) (all : Named Y) (q : List ℕ) → AllByRecursion (λ e. key e.0 ≡ q → ⊥) es → maps.get (extended all (map entry es)) q ≡ maps.get all q
  none_at [] all q h = refl
  none_at (e ∷ es) all q h =
      none_at es (maps.insert all (key e.0) (value e.0 e.1)) q h.1
      ∙ get_insert all (key e.0) (value e.0 e.1) q
      ∙ ap (λ b. cond b (Some (value e.0 e.1)) (maps.get all q)) (other_text q (key e.0) (λ same. h.0 (sym same)))

  one_more : (q : List ℕ) (v : Y) (all : Named Y) (e : K × X) → (key e.0 ≡ q → value e.0 e.1 ≡ v) → maps.get all q ≡ Some v → maps.get (maps.insert all (key e.0) (value e.0 e.1)) q ≡ Some v
  one_more q v all e is h =
      get_insert all (key e.0) (value e.0 e.1) q
      ∙ elim (same_text q (key e.0)) as (λ b. same_text q (key e.0) ≡ b → cond b (Some (value e.0 e.1)) (maps.get all q) ≡ Some v) [
        | true ↦ λ same. ap Some (is (sym (one_text q (key e.0) same)))
        | false ↦ λ other. h
      ] refl

  stays : (q : List ℕ) (v : Y) (es : List (K × X)) (all : Named Y) → AllByRecursion (λ e. key e.0 ≡ q → value e.0 e.1 ≡ v) es → maps.get all q ≡ Some v → maps.get (extended all (map entry es)) q ≡ Some v
  stays q v [] all h there = there
  stays q v (e ∷ es) all h there = stays q v es (maps.insert all (key e.0) (value e.0 e.1)) h.1 (one_more q v all e h.0 there)

  comes : (k : K) (x : X) (es : List (K × X)) (all : Named Y) → AllByRecursion (λ e. key e.0 ≡ key k → value e.0 e.1 ≡ value k x) es → maps.find R k es ≡ Some x → maps.get (extended all (map entry es)) (key k) ≡ Some (value k x)
  comes k x [] all h found = cc
  comes k x (e ∷ es) all h found =
      elim (R k e.0) as (λ r. R k e.0 ≡ r → cond (is_eq r) (Some e.1) (maps.find R k es) ≡ Some x → maps.get (extended (maps.insert all (key e.0) (value e.0 e.1)) (map entry es)) (key k) ≡ Some (value k x)) [
        | Less ↦ λ p is. comes k x es (maps.insert all (key e.0) (value e.0 e.1)) h.1 is
        | Equal ↦ λ p is.
            let same : e.0 ≡ k = sym (exact k e.0 p) in
            let stood : e.1 ≡ x = same_some e.1 x is in
            stays (key k) (value k x) es (maps.insert all (key e.0) (value e.0 e.1)) h.1
            (ap (λ (j : K). maps.get (maps.insert all (key e.0) (value e.0 e.1)) (key j)) (sym same) ∙ get_insert_same all (key e.0) (value e.0 e.1) ∙ (λ i. Some (value (same i) (stood i))))
        | Greater ↦ λ p is. comes k x es (maps.insert all (key e.0) (value e.0 e.1)) h.1 is
      ] refl found

  module _ (m : FinMap R X) (apart : HaveOwnKeys m) where
    one_value : (k : K) (x : X) → maps.get m k ≡ Some x → (e : K × X) → maps.get m e.0 ≡ Some e.1 → key e.0 ≡ key k → value e.0 e.1 ≡ value k x
    one_value k x there e is same =
        let one : e.0 ≡ k = apart e.0 k e.1 x is there same in
        let stood : e.1 ≡ x = same_some e.1 x (sym is ∙ ap (maps.get m) one ∙ there) in
        λ i. value (one i) (stood i)

    pub collected_are : AreAll m (all_in m)
    collected_are = record {
      there = λ k x is.
          comes k x (maps.entries m) maps.empty
          (each (λ e. maps.get m e.0 ≡ Some e.1) (λ e. key e.0 ≡ key k → value e.0 e.1 ≡ value k x) (one_value k x is) (maps.entries m) (entries_found o m))
          (sym (maps.get-entries m k) ∙ is);
      others = λ q none.
          none_at (maps.entries m) maps.empty q
          (each (λ e. maps.get m e.0 ≡ Some e.1) (λ e. key e.0 ≡ q → ⊥) (λ e is. none e.0 e.1 is) (maps.entries m) (entries_found o m))
          ∙ get_empty q;
    }

    -- whoever has these entries and no others has them all
    pub are_collected : (all : Named Y) → AreAll m all → all ≡ all_in m
    are_collected all are = same_by_get all (all_in m) (λ q. by_owner q (find (λ e. same_text (key e.0) q) (maps.entries m)) refl)
      where
        by_owner : (q : List ℕ) (f : Option (K × X)) → find (λ e. same_text (key e.0) q) (maps.entries m) ≡ f → maps.get all q ≡ maps.get (all_in m) q
        by_owner q (Some e) h =
            let is : maps.get m e.0 ≡ Some e.1 = of_found (λ f. maps.get m f.0 ≡ Some f.1) (λ f. same_text (key f.0) q) (maps.entries m) e (entries_found o m) h in
            let own : key e.0 ≡ q = one_text (key e.0) q (found_passes (λ f. same_text (key f.0) q) (maps.entries m) e h) in
            subst (λ (t : List ℕ). maps.get all t ≡ maps.get (all_in m) t) own (are.there e.0 e.1 is ∙ sym (collected_are.there e.0 e.1 is))
        by_owner q None h =
            let none : (k : K) (x : X) → maps.get m k ≡ Some x → key k ≡ q → ⊥ =
            λ k x is same. not_both (same_text (key k) q) (from_one (key k) q same)
            (of_entries o exact (λ e. same_text (key e.0) q ≡ false) m k x (all_fail (λ e. same_text (key e.0) q) (maps.entries m) h) is) in
            are.others q none ∙ sym (collected_are.others q none)

  -- ---- one is put, or one is removed

  module _ (m : FinMap R X) (k : K) where
    pub put_are : (x : X) (all : Named Y) → HaveOwnKeys (maps.insert m k x) → AreAll m all → AreAll (maps.insert m k x) (maps.insert all (key k) (value k x))
    put_are x all apart are = record {
      there = λ j y is.
          whether (eq_by_cmp R j k)
          (λ h.
          let same : k ≡ j = sym (one_key exact j k h) in
          let stood : x ≡ y = same_some x y (sym (get_put o m k x) ∙ ap (maps.get (maps.insert m k x)) same ∙ is) in
          ap (λ (i : K). maps.get (maps.insert all (key k) (value k x)) (key i)) (sym same) ∙ get_insert_same all (key k) (value k x) ∙ (λ i. Some (value (same i) (stood i))))
          (λ h.
          get_insert all (key k) (value k x) (key j)
          ∙ ap (λ b. cond b (Some (value k x)) (maps.get all (key j)))
          (other_text (key j) (key k) (λ same. not_both (eq_by_cmp R j k) (ap (λ (i : K). eq_by_cmp R i k) (apart j k y x is (get_put o m k x) same) ∙ own_key o k) h))
          ∙ are.there j y (sym (other_put o m k x j h) ∙ is));
      others = λ q none.
          get_insert all (key k) (value k x) q
          ∙ ap (λ b. cond b (Some (value k x)) (maps.get all q)) (other_text q (key k) (λ same. none k x (get_put o m k x) (sym same)))
          ∙ are.others q (λ j y is same.
          whether (eq_by_cmp R j k)
          (λ h. none k x (get_put o m k x) (ap key (sym (one_key exact j k h)) ∙ same))
          (λ h. none j y (other_put o m k x j h ∙ is) same));
    }

    pub gone_are : (x : X) (all : Named Y) → HaveOwnKeys m → maps.get m k ≡ Some x → AreAll m all → AreAll (maps.remove m k) (maps.remove all (key k))
    gone_are x all apart stood are = record {
      there = λ j y is.
          let other = left_other o m k j y is in
          get_remove all (key k) (key j)
          ∙ ap (λ b. cond b None (maps.get all (key j)))
          (other_text (key j) (key k) (λ same. not_both (eq_by_cmp R j k) (ap (λ (i : K). eq_by_cmp R i k) (apart j k y x other.1 stood same) ∙ own_key o k) other.0))
          ∙ are.there j y other.1;
      others = λ q none.
          get_remove all (key k) q
          ∙ whether (same_text q (key k))
          (λ h. ap (λ b. cond b None (maps.get all q)) h)
          (λ h. ap (λ b. cond b None (maps.get all q)) h ∙ are.others q (λ j y is same.
          whether (eq_by_cmp R j k)
          (λ here. not_both (same_text q (key k)) (from_one q (key k) (sym (ap key (sym (one_key exact j k here)) ∙ same))) h)
          (λ other. none j y (other_left o m k j other ∙ is) same)));
    }

    pub key_is_there : (x : X) (all : Named Y) → maps.get m k ≡ Some x → AreAll m all → IsSome (maps.get all (key k))
    key_is_there x all stood are = subst IsSome (sym (are.there k x stood)) refl
