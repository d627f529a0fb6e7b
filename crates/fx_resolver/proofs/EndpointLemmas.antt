-- What the sink has after one endpoint is told, put or removed.
use Rattle.std.proofs.Common.{◌≡◌, ◌⊎◌, inl, inr, ℕ, Bool, true, false, cond, List, Option, Some, None, IsSome, refl, sym, ap, ◌∙◌, subst}
use Rattle.std.specs.Str.{bytes_eq}
use Rattle.std.specs.Cmp.Lexicographic.{nat_list_cmp_total}
use Rattle.std.specs.FinMap as maps
use Rattle.fx_base.specs.Same.{same_bytes}
use Rattle.fx_base.specs.Grouped.{same_text}
use Rattle.fx_base.proofs.AtKey.{get_remove, insert_removed}
use Rattle.fx_base.proofs.KeyCases.{bytes_exact}
use Rattle.fx_model.specs.declared.ids.ItemKey.{ItemKey}
use Rattle.fx_model.specs.declared.view.ViewEndpoint.{ViewEndpoint}
use Rattle.fx_model.specs.Messages.{Named}
use Rattle.fx_model.proofs.Orders.{item_total, exact_item}
use Rattle.fx_resolver.specs.declared.known.KnownEndpoint.{KnownEndpoint}
use Rattle.fx_resolver.specs.Indexes.{same_item}
use Rattle.fx_resolver.specs.Known.{KnownEndpoints}
use Rattle.fx_resolver.specs.Resolved.{HaveOwnInterfaces}
use Rattle.fx_resolver.specs.Rows.{RowFor, rows_by, with_row, without_row, if_other, IsToldBut}
use Rattle.fx_resolver.proofs.RowLemmas.{rows_there, rows_others, rows_are, told_item}
use Rattle.fx_base.proofs.Cases.{same_some, none_some}
use Rattle.fx_base.proofs.Keyed.{one_key, own_key, get_inserted, get_removed, remove_absent}

-- an item that compares alike is the one
this_or : (i item : ItemKey) → (i ≡ item) ⊎ (same_item i item ≡ false)
this_or i item =
    elim (same_item i item) as (λ b. same_item i item ≡ b → (i ≡ item) ⊎ (same_item i item ≡ false)) [
      | true ↦ λ h. inl (one_key exact_item i item h)
      | false ↦ λ h. inr h
    ] refl

-- ---- one endpoint is told
pub one_told : (row : RowFor) (endpoints : KnownEndpoints) → HaveOwnInterfaces endpoints → (item : ItemKey) (told : Named ViewEndpoint) → IsToldBut row endpoints (λ i. same_item i item) told
    → with_row row item (maps.get endpoints item) told ≡ rows_by row endpoints
one_told row endpoints apart item told was =
    rows_are row endpoints apart (with_row row item (maps.get endpoints item) told)
    (told_item row endpoints apart (λ i. same_item i item) (λ _. false) item (λ i _. this_or i item) told was)

module _ (endpoints : KnownEndpoints) (item : ItemKey) where
  -- what is there without the item is another one
  without_at : (i : ItemKey) (e : KnownEndpoint) → maps.get (maps.remove endpoints item) i ≡ Some e → (same_item i item ≡ false) × (maps.get endpoints i ≡ Some e)
  without_at i e there =
      elim (same_item i item) as (λ b. same_item i item ≡ b → cond b None (maps.get endpoints i) ≡ Some e → (same_item i item ≡ false) × (maps.get endpoints i ≡ Some e)) [
        | true ↦ λ h g. none_some e g
        | false ↦ λ h g. (h, g)
      ] refl (sym (maps.get-remove item_total endpoints item i) ∙ there)

  still_at : (i : ItemKey) → same_item i item ≡ false → maps.get (maps.remove endpoints item) i ≡ maps.get endpoints i
  still_at i other = maps.get-remove item_total endpoints item i ∙ ap (λ b. cond b None (maps.get endpoints i)) other

  pub apart_without : HaveOwnInterfaces endpoints → HaveOwnInterfaces (maps.remove endpoints item)
  apart_without apart i j e f there here same = apart i j e f (without_at i e there).1 (without_at j f here).1 same

other_from : (i item : ItemKey) → (i ≡ item → ⊥) → same_item i item ≡ false
other_from i item other =
    elim (this_or i item) as (λ _. same_item i item ≡ false) [
      | inl same ↦ absurd (other same)
      | inr is ↦ is
    ]

-- ---- an endpoint is removed
module _ (row : RowFor) (endpoints : KnownEndpoints) (apart : HaveOwnInterfaces endpoints) (item : ItemKey) (told : Named ViewEndpoint) (is : told ≡ rows_by row endpoints) where
  told_there : (i : ItemKey) (e : KnownEndpoint) → maps.get endpoints i ≡ Some e → maps.get told e.iface ≡ Some (row i e)
  told_there i e there = ap (λ m. maps.get m e.iface) is ∙ rows_there row endpoints apart i e there

  -- what is withdrawn is there
  pub row_is : (e : KnownEndpoint) → maps.get endpoints item ≡ Some e → IsSome (maps.get told e.iface)
  row_is e there = subst IsSome (sym (told_there item e there)) refl

  told_others : (q : List ℕ) → ((i : ItemKey) (e : KnownEndpoint) → maps.get endpoints i ≡ Some e → e.iface ≡ q → ⊥) → maps.get told q ≡ None
  told_others q none = ap (λ m. maps.get m q) is ∙ rows_others row endpoints apart q none

  one_gone : (f : KnownEndpoint) → maps.get endpoints item ≡ Some f → IsToldBut row (maps.remove endpoints item) (λ _. false) (maps.remove told f.iface)
  one_gone f there = record {
    there = λ i e here _.
        let at = without_at endpoints item i e here in
        let other : same_text e.iface f.iface ≡ false =
        elim (same_text e.iface f.iface) as (λ b. same_text e.iface f.iface ≡ b → b ≡ false) [
          | true ↦ λ h. sym (ap (λ j. same_item j item) (apart i item e f at.1 there (one_key bytes_exact e.iface f.iface h)) ∙ own_key item_total item) ∙ at.0
          | false ↦ λ h. refl
        ] refl in
        get_remove told f.iface e.iface ∙ ap (λ b. cond b None (maps.get told e.iface)) other ∙ told_there i e at.1;
    others = λ q none.
        get_remove told f.iface q
        ∙ elim (same_text q f.iface) as (λ b. same_text q f.iface ≡ b → cond b None (maps.get told q) ≡ None) [
          | true ↦ λ h. refl
          | false ↦ λ h. told_others q (λ i e here same.
              let other : same_item i item ≡ false = other_from i item (λ own.
              let value : e ≡ f = same_some e f (sym here ∙ ap (maps.get endpoints) own ∙ there) in
              let bad : true ≡ false = sym (ap (λ t. same_text t f.iface) (sym same ∙ ap (λ (u : KnownEndpoint). u.iface) value) ∙ own_key nat_list_cmp_total f.iface) ∙ h in cc) in
              none i e (still_at endpoints item i other ∙ here) same)
        ] refl;
  }

  pub row_gone : without_row (maps.get endpoints item) told ≡ rows_by row (maps.remove endpoints item)
  row_gone = by_cases (maps.get endpoints item) refl
    where
      by_cases : (o : Option KnownEndpoint) → maps.get endpoints item ≡ o → without_row o told ≡ rows_by row (maps.remove endpoints item)
      by_cases None none = is ∙ ap (rows_by row) (sym (remove_absent item_total exact_item endpoints item none))
      by_cases (Some f) there = rows_are row (maps.remove endpoints item) (apart_without endpoints item apart) (maps.remove told f.iface) (one_gone f there)

-- ---- an endpoint is put where none was
module _ (row : RowFor) (endpoints : KnownEndpoints) (item : ItemKey) (e : KnownEndpoint) (none : maps.get endpoints item ≡ None) (apart : HaveOwnInterfaces (maps.insert endpoints item e)) where
  with_at : (i : ItemKey) (f : KnownEndpoint) → maps.get endpoints i ≡ Some f → maps.get (maps.insert endpoints item e) i ≡ Some f
  with_at i f there =
      let other : same_item i item ≡ false = other_from i item (λ own. none_some f (sym none ∙ ap (maps.get endpoints) (sym own) ∙ there)) in
      maps.get-insert item_total endpoints item e i ∙ ap (λ b. cond b (Some e) (maps.get endpoints i)) other ∙ there

  apart_before : HaveOwnInterfaces endpoints
  apart_before i j f g there here same = apart i j f g (with_at i f there) (with_at j g here) same

  row_come : maps.insert (rows_by row endpoints) e.iface (row item e) ≡ rows_by row (maps.insert endpoints item e)
  row_come =
      ap (λ o. with_row row item o (rows_by row endpoints)) (sym (get_inserted item_total endpoints item e))
      ∙ one_told row (maps.insert endpoints item e) apart item (rows_by row endpoints) (record {
        there = λ i f there isnt.
            rows_there row endpoints apart_before i f (sym (maps.get-insert item_total endpoints item e i ∙ ap (λ b. cond b (Some e) (maps.get endpoints i)) isnt) ∙ there);
        others = λ q no. rows_others row endpoints apart_before q (λ i f there same. no i f (with_at i f there) same);
      })

-- ---- an endpoint is put
module _ (row : RowFor) (endpoints : KnownEndpoints) (apart : HaveOwnInterfaces endpoints) (item : ItemKey) (e : KnownEndpoint) (apart' : HaveOwnInterfaces (maps.insert endpoints item e)) (told : Named ViewEndpoint) (is : told ≡ rows_by row endpoints) where
  -- to take out what is put over changes nothing
  over_old : (o : Option KnownEndpoint) → maps.insert (without_row (if_other e.iface o) told) e.iface (row item e) ≡ maps.insert (without_row o told) e.iface (row item e)
  over_old None = refl
  over_old (Some f) =
      elim (bytes_eq f.iface e.iface) as (λ b. bytes_eq f.iface e.iface ≡ b → maps.insert (without_row (cond b None (Some f)) told) e.iface (row item e) ≡ maps.insert (maps.remove told f.iface) e.iface (row item e)) [
        | true ↦ λ h.
            sym (insert_removed nat_list_cmp_total bytes_exact told e.iface (row item e))
            ∙ ap (λ (t : List ℕ). maps.insert (maps.remove told t) e.iface (row item e)) (sym (same_bytes f.iface e.iface h))
        | false ↦ λ h. refl
      ] refl

  pub row_put : maps.insert (without_row (if_other e.iface (maps.get endpoints item)) told) e.iface (row item e) ≡ rows_by row (maps.insert endpoints item e)
  row_put =
      over_old (maps.get endpoints item)
      ∙ ap (λ m. maps.insert m e.iface (row item e)) (row_gone row endpoints apart item told is)
      ∙ row_come row (maps.remove endpoints item) item e (get_removed item_total endpoints item) (subst HaveOwnInterfaces (sym (insert_removed item_total exact_item endpoints item e)) apart')
      ∙ ap (rows_by row) (insert_removed item_total exact_item endpoints item e)

-- an endpoint that has another interface is the one that is there
pub same_endpoint : (iface : List ℕ) (o : Option KnownEndpoint) (e : KnownEndpoint) → if_other iface o ≡ Some e → o ≡ Some e
same_endpoint iface None e h = h
same_endpoint iface (Some f) e h =
    elim (bytes_eq f.iface iface) as (λ b. cond b None (Some f) ≡ Some e → ◌≡◌ {A = Option KnownEndpoint} (Some f) (Some e)) [
      | true ↦ λ g. none_some e g
      | false ↦ λ g. g
    ] h
