-- What the sink has of endpoints, as a row is told or withdrawn.
use Rattle.std.proofs.Common.{◌≡◌, ◌⊎◌, inl, inr, ℕ, Bool, true, false, cond, List, [], ◌∷◌, map, Option, Some, None, is_some, refl, sym, ap, ◌∙◌, subst}
use Rattle.std.specs.List.{AllByRecursion, find}
use Rattle.std.specs.declared.cmp.Ordering.TheVariants.{Less, Equal, Greater}
use Rattle.std.specs.Ordering.{is_eq}
use Rattle.std.specs.Str.{bytes_eq}
use Rattle.std.specs.Cmp.Lexicographic.{nat_list_cmp_total}
use Rattle.std.specs.FinMap as maps
use Rattle.fx_base.specs.Extended.{extended}
use Rattle.fx_base.specs.Set as set
use Rattle.fx_base.specs.Same.{same_bytes}
use Rattle.fx_base.specs.Grouped.{same_text}
use Rattle.fx_base.proofs.AtKey.{get_insert, get_remove, get_empty, same_by_get}
use Rattle.fx_base.proofs.Found.{each, of_found, found_passes, all_fail, entries_found, of_entries}
use Rattle.fx_base.proofs.KeyCases.{bytes_exact}
use Rattle.fx_model.specs.declared.ids.ItemKey.{ItemKey}
use Rattle.fx_model.specs.declared.view.ViewEndpoint.{ViewEndpoint}
use Rattle.fx_model.specs.contracts.ids.ItemKeyOrd.TheImpl as item_cmp
use Rattle.fx_model.specs.Messages.{Named}
use Rattle.fx_model.proofs.Orders.{item_total, exact_item}
use Rattle.fx_resolver.specs.declared.known.KnownEndpoint.{KnownEndpoint}
use Rattle.fx_resolver.specs.Indexes.{Items}
use Rattle.fx_resolver.specs.Known.{KnownEndpoints}
use Rattle.fx_resolver.specs.Resolved.{HaveOwnInterfaces}
use Rattle.fx_resolver.specs.Rows.{RowFor, entry_by, rows_by, with_row, without_row, if_other, IsToldBut}
use Rattle.fx_base.proofs.Cases.{same_some}
use Rattle.fx_base.proofs.Keyed.{one_key, own_key, at_key}

other_text : (t u : List ℕ) → (u ≡ t → ⊥) → same_text t u ≡ false
other_text t u other =
    elim (same_text t u) as (λ b. same_text t u ≡ b → b ≡ false) [
      | true ↦ λ h. absurd (other (sym (one_key bytes_exact t u h)))
      | false ↦ λ h. refl
    ] refl

-- ---- the rows of all endpoints
module _ (row : RowFor) where
  -- no row of these is at this interface
  none_at : (es : List (ItemKey × KnownEndpoint)) (m : Named ViewEndpoint) (q : List ℕ) → AllByRecursion (λ x. x.1.iface ≡ q → ⊥) es → maps.get (extended m (map (entry_by row) es)) q ≡ maps.get m q
  none_at [] m q h = refl
  none_at (x ∷ xs) m q h =
      none_at xs (maps.insert m x.1.iface (row x.0 x.1)) q h.1
      ∙ get_insert m x.1.iface (row x.0 x.1) q
      ∙ ap (λ b. cond b (Some (row x.0 x.1)) (maps.get m q)) (other_text q x.1.iface h.0)

  module _ (q : List ℕ) (v : ViewEndpoint) where
    one_more : (m : Named ViewEndpoint) (x : ItemKey × KnownEndpoint) → (x.1.iface ≡ q → row x.0 x.1 ≡ v) → maps.get m q ≡ Some v → maps.get (maps.insert m x.1.iface (row x.0 x.1)) q ≡ Some v
    one_more m x is h =
        get_insert m x.1.iface (row x.0 x.1) q
        ∙ elim (same_text q x.1.iface) as (λ b. same_text q x.1.iface ≡ b → cond b (Some (row x.0 x.1)) (maps.get m q) ≡ Some v) [
          | true ↦ λ e. ap Some (is (sym (one_key bytes_exact q x.1.iface e)))
          | false ↦ λ e. h
        ] refl

    stays : (es : List (ItemKey × KnownEndpoint)) (m : Named ViewEndpoint) → AllByRecursion (λ x. x.1.iface ≡ q → row x.0 x.1 ≡ v) es → maps.get m q ≡ Some v → maps.get (extended m (map (entry_by row) es)) q ≡ Some v
    stays [] m h there = there
    stays (x ∷ xs) m h there = stays xs (maps.insert m x.1.iface (row x.0 x.1)) h.1 (one_more m x h.0 there)

  comes : (k : ItemKey) (e : KnownEndpoint) (es : List (ItemKey × KnownEndpoint)) (m : Named ViewEndpoint) → AllByRecursion (λ x. x.1.iface ≡ e.iface → row x.0 x.1 ≡ row k e) es → maps.find item_cmp.cmp-value.it k es ≡ Some e → maps.get (extended m (map (entry_by row) es)) e.iface ≡ Some (row k e)
  comes k e [] m h found = cc
  comes k e (x ∷ xs) m h found =
      elim (item_cmp.cmp-value.it k x.0) as (λ r. item_cmp.cmp-value.it k x.0 ≡ r → cond (is_eq r) (Some x.1) (maps.find item_cmp.cmp-value.it k xs) ≡ Some e → maps.get (extended (maps.insert m x.1.iface (row x.0 x.1)) (map (entry_by row) xs)) e.iface ≡ Some (row k e)) [
        | Less ↦ λ p is. comes k e xs (maps.insert m x.1.iface (row x.0 x.1)) h.1 is
        | Equal ↦ λ p is.
            let value : x.1 ≡ e = same_some x.1 e is in
            let key : x.0 ≡ k = sym (exact_item k x.0 p) in
            stays e.iface (row k e) xs (maps.insert m x.1.iface (row x.0 x.1)) h.1
            (subst (λ (u : KnownEndpoint). maps.get (maps.insert m x.1.iface (row x.0 x.1)) u.iface ≡ Some (row k e)) value
            (get_insert m x.1.iface (row x.0 x.1) x.1.iface ∙ ap (λ b. cond b (Some (row x.0 x.1)) (maps.get m x.1.iface)) (own_key nat_list_cmp_total x.1.iface) ∙ (λ j. Some (row (key j) (value j)))))
        | Greater ↦ λ p is. comes k e xs (maps.insert m x.1.iface (row x.0 x.1)) h.1 is
      ] refl found

  module _ (endpoints : KnownEndpoints) (apart : HaveOwnInterfaces endpoints) where
    -- an endpoint with the interface of another one is that one
    one_row : (k : ItemKey) (e : KnownEndpoint) → maps.get endpoints k ≡ Some e → (x : ItemKey × KnownEndpoint) → maps.get endpoints x.0 ≡ Some x.1 → x.1.iface ≡ e.iface → row x.0 x.1 ≡ row k e
    one_row k e there x is same =
        let key : x.0 ≡ k = apart x.0 k x.1 e is there same in
        let value : x.1 ≡ e = same_some x.1 e (sym is ∙ ap (maps.get endpoints) key ∙ there) in
        λ j. row (key j) (value j)

    pub rows_there : (k : ItemKey) (e : KnownEndpoint) → maps.get endpoints k ≡ Some e → maps.get (rows_by row endpoints) e.iface ≡ Some (row k e)
    rows_there k e there =
        comes k e (maps.entries endpoints) maps.empty
        (each (λ x. maps.get endpoints x.0 ≡ Some x.1) (λ x. x.1.iface ≡ e.iface → row x.0 x.1 ≡ row k e) (one_row k e there) (maps.entries endpoints) (entries_found item_total endpoints))
        (sym (maps.get-entries endpoints k) ∙ there)

    pub rows_others : (q : List ℕ) → ((i : ItemKey) (e : KnownEndpoint) → maps.get endpoints i ≡ Some e → e.iface ≡ q → ⊥) → maps.get (rows_by row endpoints) q ≡ None
    rows_others q none =
        none_at (maps.entries endpoints) maps.empty q
        (each (λ x. maps.get endpoints x.0 ≡ Some x.1) (λ x. x.1.iface ≡ q → ⊥) (λ x is. none x.0 x.1 is) (maps.entries endpoints) (entries_found item_total endpoints))
        ∙ get_empty q

    -- whoever has these rows and no others has them all
    pub rows_are : (told : Named ViewEndpoint) → IsToldBut row endpoints (λ _. false) told → told ≡ rows_by row endpoints
    rows_are told is = same_by_get told (rows_by row endpoints) (λ q. by_owner q (find (λ x. same_text x.1.iface q) (maps.entries endpoints)) refl)
      where
        by_owner : (q : List ℕ) (o : Option (ItemKey × KnownEndpoint)) → find (λ x. same_text x.1.iface q) (maps.entries endpoints) ≡ o → maps.get told q ≡ maps.get (rows_by row endpoints) q
        by_owner q (Some x) h =
            let there : maps.get endpoints x.0 ≡ Some x.1 = of_found (λ y. maps.get endpoints y.0 ≡ Some y.1) (λ y. same_text y.1.iface q) (maps.entries endpoints) x (entries_found item_total endpoints) h in
            let own : x.1.iface ≡ q = one_key bytes_exact x.1.iface q (found_passes (λ y. same_text y.1.iface q) (maps.entries endpoints) x h) in
            subst (λ (t : List ℕ). maps.get told t ≡ maps.get (rows_by row endpoints) t) own (is.there x.0 x.1 there refl ∙ sym (rows_there x.0 x.1 there))
        by_owner q None h =
            let none : (i : ItemKey) (e : KnownEndpoint) → maps.get endpoints i ≡ Some e → e.iface ≡ q → ⊥ =
            λ i e there same.
            let fails : same_text e.iface q ≡ false = of_entries item_total exact_item (λ y. same_text y.1.iface q ≡ false) endpoints i e (all_fail (λ y. same_text y.1.iface q) (maps.entries endpoints) h) there in
            let bad : true ≡ false = sym (ap (λ t. same_text t q) same ∙ own_key nat_list_cmp_total q) ∙ fails in cc in
            is.others q none ∙ sym (rows_others q none)

-- the same rows are told where they are equal
pub rows_same : (row row' : RowFor) (endpoints : KnownEndpoints) → ((i : ItemKey) (e : KnownEndpoint) → row i e ≡ row' i e) → rows_by row endpoints ≡ rows_by row' endpoints
rows_same row row' endpoints h = λ j. rows_by (λ i e. h i e j) endpoints

module _ (endpoints : KnownEndpoints) (apart : HaveOwnInterfaces endpoints) (row row' : RowFor) where
  -- rows that change, but for some items
  pub told_but : (but : ItemKey → Bool) (told : Named ViewEndpoint) → told ≡ rows_by row endpoints → ((i : ItemKey) (e : KnownEndpoint) → but i ≡ false → row i e ≡ row' i e) → IsToldBut row' endpoints but told
  told_but but told is same = record {
    there = λ i e there isnt. ap (λ n. maps.get n e.iface) is ∙ rows_there row endpoints apart i e there ∙ ap Some (same i e isnt);
    others = λ q none. ap (λ n. maps.get n q) is ∙ rows_others row endpoints apart q none;
  }

-- the item is among those that are left
abbrev pub is_left : List (ItemKey × Unit {0}) → ItemKey → Bool
is_left es i = is_some (maps.find item_cmp.cmp-value.it i es)

module _ (row : RowFor) (endpoints : KnownEndpoints) (apart : HaveOwnInterfaces endpoints) where
  -- one of the items is told
  pub told_item : (but less : ItemKey → Bool) (item : ItemKey) → ((i : ItemKey) → less i ≡ false → (i ≡ item) ⊎ (but i ≡ false))
      → (told : Named ViewEndpoint) → IsToldBut row endpoints but told → IsToldBut row endpoints less (with_row row item (maps.get endpoints item) told)
  told_item but less item left told was = by_cases (maps.get endpoints item) refl
    where
      none_some : (e : KnownEndpoint) (A : Type 0) → None ≡ Some e → A
      none_some e A h = cc

      by_cases : (o : Option KnownEndpoint) → maps.get endpoints item ≡ o → IsToldBut row endpoints less (with_row row item o told)
      by_cases None h = record {
        there = λ i e there isnt.
            elim (left i isnt) as (λ _. maps.get told e.iface ≡ Some (row i e)) [
              | inl here ↦ none_some e _ (sym h ∙ ap (maps.get endpoints) (sym here) ∙ there)
              | inr before ↦ was.there i e there before
            ];
        others = was.others;
      }
      by_cases (Some f) h = record {
        there = λ i e there isnt.
            get_insert told f.iface (row item f) e.iface
            ∙ elim (same_text e.iface f.iface) as (λ b. same_text e.iface f.iface ≡ b → cond b (Some (row item f)) (maps.get told e.iface) ≡ Some (row i e)) [
              | true ↦ λ same. ap Some (one_row row endpoints apart i e there (item, f) h (sym (one_key bytes_exact e.iface f.iface same)))
              | false ↦ λ other. elim (left i isnt) as (λ _. maps.get told e.iface ≡ Some (row i e)) [
                | inl here ↦
                    let value : e ≡ f = same_some e f (sym there ∙ ap (maps.get endpoints) here ∙ h) in
                    let bad : true ≡ false = sym (ap (λ (u : KnownEndpoint). same_text u.iface f.iface) value ∙ own_key nat_list_cmp_total f.iface) ∙ other in cc
                | inr before ↦ was.there i e there before
              ]
            ] refl;
        others = λ q none.
            get_insert told f.iface (row item f) q ∙ ap (λ b. cond b (Some (row item f)) (maps.get told q)) (other_text q f.iface (none item f h)) ∙ was.others q none;
      }

  -- ---- a walk of the items that are told

  pub told_start : (items : Items) (told : Named ViewEndpoint) → IsToldBut row endpoints (set.contains items) told → IsToldBut row endpoints (is_left (maps.entries items)) told
  told_start items told was = subst (λ (b : ItemKey → Bool). IsToldBut row endpoints b told) (λ j i. is_some (maps.get-entries items i j)) was

  pub told_next : (e : ItemKey × Unit {0}) (es : List (ItemKey × Unit {0})) (told : Named ViewEndpoint) → IsToldBut row endpoints (is_left (e ∷ es)) told
      → IsToldBut row endpoints (is_left es) (with_row row e.0 (maps.get endpoints e.0) told)
  told_next e es told was = told_item (is_left (e ∷ es)) (is_left es) e.0 left told was
    where
      left : (i : ItemKey) → is_left es i ≡ false → (i ≡ e.0) ⊎ (is_left (e ∷ es) i ≡ false)
      left i isnt =
          elim (item_cmp.cmp-value.it i e.0) as (λ r. item_cmp.cmp-value.it i e.0 ≡ r → (i ≡ e.0) ⊎ (is_some (cond (is_eq r) (Some e.1) (maps.find item_cmp.cmp-value.it i es)) ≡ false)) [
            | Less ↦ λ p. inr isnt
            | Equal ↦ λ p. inl (exact_item i e.0 p)
            | Greater ↦ λ p. inr isnt
          ] refl
