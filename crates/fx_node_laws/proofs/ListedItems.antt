-- The items that the nodes hold are those of the resources, in one order: endpoints stand before network sets.
use Rattle.std.proofs.Common.{◌≡◌, ℕ, true, false, cond, List, [], ◌∷◌, ◌++◌, map, Option, Some, None, T, refl, sym, ap, ◌∙◌, subst}
use Rattle.std.specs.Prelude.{option_map}
use Rattle.std.specs.declared.cmp.Ordering.{Ordering}
use Rattle.std.specs.Option.{option_or}
use Rattle.std.specs.Ordering.{is_lt, eq_by_cmp}
use Rattle.std.specs.List.{AllByRecursion}
use Rattle.std.specs.FinMap as maps
use Rattle.std.specs.FinMap.{find, is_sorted}
use Rattle.std.specs.FinMap.Entries.{below_all, same_entries}
use Rattle.fx_base.proofs.Cases.{first, second, both}
use Rattle.fx_base.proofs.Found.{each, entries_found}
use Rattle.fx_names.specs.Digests.{Digest}
use Rattle.fx_laws.proofs.Uses.{all-map}
use Rattle.fx_model.proofs.Orders.{item_total, exact_item}
use Rattle.fx_model.specs.contracts.ids.ItemKeyOrd.TheImpl as item_cmp
use Rattle.fx_model.specs.declared.ids.ItemKey.{ItemKey}
use Rattle.fx_model.specs.declared.ids.ItemKey.TheVariants as item_key
use Rattle.fx_model.specs.declared.ids.Key.TheVariants as key
use Rattle.fx_model.specs.declared.policy.NetSet.{NetSet}
use Rattle.fx_model.specs.declared.resources.Endpoint.{Endpoint}
use Rattle.fx_model.specs.declared.resources.Item.{Item}
use Rattle.fx_model.specs.declared.resources.Item.TheVariants as item
use Rattle.fx_model.specs.declared.resources.Resources.{Resources}
use Rattle.fx_model.specs.Formed.{is_endpoint_key, is_net_set_key}
use Rattle.fx_model.specs.Resources.{items_of}
use Rattle.fx_model.specs.Tests.{item_at}
use Rattle.fx_label_index.specs.declared.held.Inputs as index
use Rattle.fx_active.specs.declared.inputs.Inputs as active
use Rattle.fx_resolver.specs.declared.inputs.Inputs as resolver
use Rattle.fx_members.specs.declared.inputs.Inputs as members
use Rattle.fx_node_laws.specs.Tied.{held_of, IsTied}
use Rattle.fx_node_laws.proofs.ItemTies.{no_endpoint}
use Rattle.fx_node_laws.proofs.Items.{held_at}
use Rattle.fx_node_laws.proofs.Mapped.{value_at, entries_mapped, mapped-each}
use Rattle.fx_node_laws.proofs.TakenTies.{taken_is}

-- ---- one list of entries behind another

module _ {K X : Type 0} (R : K → K → Ordering) where
  below-append : (q : K) (xs ys : List (K × X)) → T (below_all R q xs) → T (below_all R q ys) → T (below_all R q (xs ++ ys))
  below-append q [] ys g h = h
  below-append q (x ∷ xs) ys g h = both _ _ (first _ _ g) (below-append q xs ys (second _ _ g) h)

  sorted-append : (xs ys : List (K × X)) → T (is_sorted R xs) → T (is_sorted R ys) → AllByRecursion (λ x. T (below_all R x.0 ys)) xs → T (is_sorted R (xs ++ ys))
  sorted-append [] ys g h below = h
  sorted-append (x ∷ xs) ys g h below = both _ _ (below-append x.0 xs ys (first _ _ g) below.0) (sorted-append xs ys (second _ _ g) h below.1)

  find-append : (q : K) (xs ys : List (K × X)) → find R q (xs ++ ys) ≡ option_or (find R q xs) (find R q ys)
  find-append q [] ys = refl
  find-append q (x ∷ xs) ys =
      elim (eq_by_cmp R q x.0) as (λ b. cond b (Some x.1) (find R q (xs ++ ys)) ≡ option_or (cond b (Some x.1) (find R q xs)) (find R q ys)) [
        | true ↦ refl
        | false ↦ find-append q xs ys
      ]

-- ---- entries with what a function makes of their values

module _ {K X Y : Type 0} (R : K → K → Ordering) (f : X → Y) where
  abbrev made : K × X → K × Y
  made e = (e.0, f e.1)

  below-made : (q : K) (es : List (K × X)) → T (below_all R q es) → T (below_all R q (map made es))
  below-made q [] h = tt
  below-made q (e ∷ es) h = both _ _ (first _ _ h) (below-made q es (second _ _ h))

  sorted-made : (es : List (K × X)) → T (is_sorted R es) → T (is_sorted R (map made es))
  sorted-made [] h = tt
  sorted-made (e ∷ es) h = both _ _ (below-made e.0 es (first _ _ h)) (sorted-made es (second _ _ h))

  find-made : (q : K) (es : List (K × X)) → find R q (map made es) ≡ option_map f (find R q es)
  find-made q [] = refl
  find-made q (e ∷ es) =
      elim (eq_by_cmp R q e.0) as (λ b. cond b (Some (f e.1)) (find R q (map made es)) ≡ option_map f (cond b (Some e.1) (find R q es))) [
        | true ↦ refl
        | false ↦ find-made q es
      ]

-- ---- endpoints before network sets

endpoint_first : (k q : ItemKey) → is_endpoint_key (key.Item k) ≡ true → is_net_set_key (key.Item q) ≡ true → T (is_lt (item_cmp.cmp-value.it k q))
endpoint_first (item_key.Endpoint ns name) (item_key.NetSet scope other) g h = tt
endpoint_first (item_key.Endpoint ns name) (item_key.Endpoint scope other) g h = let wrong : false ≡ true = h in cc
endpoint_first (item_key.NetSet ns name) q g h = let wrong : false ≡ true = g in cc

or_none : {A : Type 0} (o : Option A) → option_or o None ≡ o
or_none None = refl
or_none (Some x) = refl

abbrev of_set : ItemKey × NetSet → ItemKey × Item
of_set x = (x.0, item.NetSet x.1)

sets_behind : (k : ItemKey) → is_endpoint_key (key.Item k) ≡ true → (ys : List (ItemKey × NetSet)) → AllByRecursion (λ y. is_net_set_key (key.Item y.0) ≡ true) ys → T (below_all item_cmp.cmp-value.it k (map of_set ys))
sets_behind k is [] h = tt
sets_behind k is (y ∷ ys) h = both _ _ (endpoint_first k y.0 is h.0) (sets_behind k is ys h.1)

module _ {dg : Digest} {R : Resources} {n : index.Inputs} {a : active.Inputs} {r : resolver.Inputs} {m : members.Inputs} (tied : IsTied dg R n a r m) where
  abbrev endpoints : List (ItemKey × Item)
  endpoints = map (λ (x : ItemKey × Endpoint). (x.0, item.Endpoint x.1)) (maps.entries R.endpoints)

  abbrev sets : List (ItemKey × Item)
  sets = map of_set (maps.entries R.net_sets)

  set_keys : AllByRecursion (λ (y : ItemKey × NetSet). is_net_set_key (key.Item y.0) ≡ true) (maps.entries R.net_sets)
  set_keys =
      each (λ (y : ItemKey × NetSet). maps.get R.net_sets y.0 ≡ Some y.1) (λ y. is_net_set_key (key.Item y.0) ≡ true) (λ y at. tied.kinds_sets y.0 y.1 at)
      (maps.entries R.net_sets) (entries_found item_total R.net_sets)

  all_before : AllByRecursion (λ (x : ItemKey × Item). T (below_all item_cmp.cmp-value.it x.0 sets)) endpoints
  all_before =
      all-map (λ (x : ItemKey × Item). T (below_all item_cmp.cmp-value.it x.0 sets)) (λ (x : ItemKey × Endpoint). (x.0, item.Endpoint x.1)) (maps.entries R.endpoints)
      (each (λ (x : ItemKey × Endpoint). maps.get R.endpoints x.0 ≡ Some x.1) (λ x. T (below_all item_cmp.cmp-value.it x.0 sets)) (λ x at. sets_behind x.0 (tied.kinds_endpoints x.0 x.1 at) (maps.entries R.net_sets) set_keys)
      (maps.entries R.endpoints) (entries_found item_total R.endpoints))

  items_sorted : T (is_sorted item_cmp.cmp-value.it (items_of R))
  items_sorted =
      sorted-append item_cmp.cmp-value.it endpoints sets
      (sorted-made item_cmp.cmp-value.it item.Endpoint (maps.entries R.endpoints) (maps.entries_sorted R.endpoints))
      (sorted-made item_cmp.cmp-value.it item.NetSet (maps.entries R.net_sets) (maps.entries_sorted R.net_sets)) all_before

  -- ---- what is found of a key

  no_set : (ns name : List ℕ) → maps.get R.net_sets (item_key.Endpoint ns name) ≡ None
  no_set ns name = by_value (maps.get R.net_sets (item_key.Endpoint ns name)) refl
    where
      by_value : (o : Option NetSet) → maps.get R.net_sets (item_key.Endpoint ns name) ≡ o → o ≡ None
      by_value None h = refl
      by_value (Some s) h = let wrong : false ≡ true = tied.kinds_sets (item_key.Endpoint ns name) s h in cc

  by_kind : (q : ItemKey) → option_or (option_map item.Endpoint (maps.get R.endpoints q)) (option_map item.NetSet (maps.get R.net_sets q)) ≡ item_at R q
  by_kind (item_key.Endpoint ns name) =
      let found : Option Item = option_map item.Endpoint (maps.get R.endpoints (item_key.Endpoint ns name)) in
      ap (λ (o : Option NetSet). option_or found (option_map item.NetSet o)) (no_set ns name) ∙ or_none found
  by_kind (item_key.NetSet ns name) =
      ap (λ (o : Option Endpoint). option_or (option_map item.Endpoint o) (option_map item.NetSet (maps.get R.net_sets (item_key.NetSet ns name)))) (no_endpoint (taken_is tied) ns name)

  find_item : (q : ItemKey) → find item_cmp.cmp-value.it q (items_of R) ≡ item_at R q
  find_item q =
      find-append item_cmp.cmp-value.it q endpoints sets
      ∙ (λ j. option_or (find-made item_cmp.cmp-value.it item.Endpoint q (maps.entries R.endpoints) j) (find-made item_cmp.cmp-value.it item.NetSet q (maps.entries R.net_sets) j))
      ∙ (λ j. option_or (option_map item.Endpoint (sym (maps.get-entries R.endpoints q) j)) (option_map item.NetSet (sym (maps.get-entries R.net_sets q) j)))
      ∙ by_kind q

  -- ---- the lists

  items_listed : maps.entries m.items ≡ items_of R
  items_listed =
      same_entries item_cmp.cmp-value.it item_total exact_item (maps.entries m.items) (items_of R) (maps.entries_sorted m.items) items_sorted
      (λ q. sym (maps.get-entries m.items q) ∙ tied.contributors q ∙ sym (find_item q))

  -- each is the item at its key
  pub items_found : AllByRecursion (λ (x : ItemKey × Item). item_at R x.0 ≡ Some x.1) (items_of R)
  items_found =
      subst (λ (xs : List (ItemKey × Item)). AllByRecursion (λ x. item_at R x.0 ≡ Some x.1) xs) items_listed
      (each (λ (x : ItemKey × Item). maps.get m.items x.0 ≡ Some x.1) (λ x. item_at R x.0 ≡ Some x.1) (λ x at. sym (tied.contributors x.0) ∙ at) (maps.entries m.items) (entries_found item_total m.items))

  held_value : (k : ItemKey) (o : Option Item) → held_of k o ≡ value_at (λ (k : ItemKey) (x : Item). Some (held_at k x)) k o
  held_value k None = refl
  held_value k (Some x) = refl

  -- and the index holds what counts of each
  pub held_listed : maps.entries n.items ≡ map (λ (x : ItemKey × Item). (x.0, held_at x.0 x.1)) (items_of R)
  held_listed =
      entries_mapped item_total exact_item (λ (k : ItemKey) (x : Item). Some (held_at k x)) m.items n.items
      (λ k. tied.items k ∙ held_value k (item_at R k) ∙ ap (value_at (λ (k : ItemKey) (x : Item). Some (held_at k x)) k) (sym (tied.contributors k)))
      ∙ mapped-each held_at (maps.entries m.items)
      ∙ ap (map (λ (x : ItemKey × Item). (x.0, held_at x.0 x.1))) items_listed
