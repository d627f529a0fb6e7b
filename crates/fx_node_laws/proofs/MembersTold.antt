-- A used set has, by the members' items and pairs, the members that the resources give it.
use Rattle.std.proofs.Common.{◌≡◌, ◌⊎◌, inl, inr, Bool, true, false, ◌||◌, List, [], ◌∷◌, map, Option, Some, None, refl, sym, ap, ◌∙◌}
use Rattle.std.specs.Prelude.{filter, option_map}
use Rattle.std.specs.Ordering.{eq_by_cmp}
use Rattle.std.specs.List.{list_any}
use Rattle.std.specs.FinMap as maps
use Rattle.std.proofs.lemmas.Bool.{or_left, or_right}
use Rattle.std.proofs.lemmas.List.Elements.{filter-append}
use Rattle.std.proofs.lemmas.List.Folds.{list_any-append}
use Rattle.fx_base.specs.Extended.{collected}
use Rattle.fx_base.specs.Set as set
use Rattle.fx_base.specs.Set.{marked}
use Rattle.fx_base.proofs.AnyCollected.{any-collected}
use Rattle.fx_base.proofs.AnyIn.{same_truth}
use Rattle.fx_names.specs.Digests.{Digest}
use Rattle.fx_selector.specs.Truth.{holds}
use Rattle.fx_model.proofs.Orders.{item_total, exact_item, exact_member}
use Rattle.fx_model.specs.contracts.member.MemberOrd.TheImpl as member_cmp
use Rattle.fx_model.specs.contracts.member.MemberOrd.TheImpl.Laws as member_laws
use Rattle.fx_model.specs.declared.ids.ItemKey.{ItemKey}
use Rattle.fx_model.specs.declared.ids.ItemKey.TheVariants as item_key
use Rattle.fx_model.specs.declared.member.Member.{Member}
use Rattle.fx_model.specs.declared.policy.NetSet.{NetSet}
use Rattle.fx_model.specs.declared.resources.Endpoint.{Endpoint}
use Rattle.fx_model.specs.declared.resources.Item.{Item}
use Rattle.fx_model.specs.declared.resources.Item.TheVariants as item
use Rattle.fx_model.specs.declared.resources.Resources.{Resources}
use Rattle.fx_model.specs.declared.set_use.SetUse.{SetUse}
use Rattle.fx_model.specs.Labels.{labels_of}
use Rattle.fx_model.specs.Resources.{items_of}
use Rattle.fx_model.specs.Sets.{contributed, contributions, selected, set_members}
use Rattle.fx_model.specs.Tests.{item_at}
use Rattle.fx_label_index.specs.declared.held.Inputs as index
use Rattle.fx_active.specs.declared.inputs.Inputs as active
use Rattle.fx_graph_rules.specs.Composed.{holds_at}
use Rattle.fx_resolver.specs.declared.inputs.Inputs as resolver
use Rattle.fx_members.specs.declared.inputs.Inputs as members
use Rattle.fx_members.specs.Members.{matched_items, members_for}
use Rattle.fx_members.specs.UseText.{text_of}
use Rattle.fx_members.proofs.MemberLemmas.{same_members}
use Rattle.fx_node_laws.specs.Tied.{IsTied}
use Rattle.fx_node_laws.proofs.Items.{endpoint_item, set_item, holds_item}
use Rattle.fx_node_laws.proofs.Lists.{filter-map}
use Rattle.fx_node_laws.proofs.SomeEntry.{any-flat_map, found_entry, from_entry}

any-map : {A B : Type 0} (t : B → Bool) (f : A → B) (xs : List A) → list_any t (map f xs) ≡ list_any (λ x. t (f x)) xs
any-map t f [] = refl
any-map t f (x ∷ xs) = ap (λ b. t (f x) || b) (any-map t f xs)

either : (a b : Bool) → (a || b) ≡ true → (a ≡ true) ⊎ (b ≡ true)
either true b h = inl refl
either false b h = inr h

-- ---- items of the resources that pass two tests

module _ (R : Resources) (s t : ItemKey × Item → Bool) where
  abbrev of_endpoint : ItemKey × Endpoint → ItemKey × Item
  of_endpoint x = (x.0, item.Endpoint x.1)

  abbrev of_set : ItemKey × NetSet → ItemKey × Item
  of_set x = (x.0, item.NetSet x.1)

  abbrev some_endpoint : Bool
  some_endpoint = list_any (λ x. t (of_endpoint x)) (filter (λ x. s (of_endpoint x)) (maps.entries R.endpoints))

  abbrev some_set : Bool
  some_set = list_any (λ x. t (of_set x)) (filter (λ x. s (of_set x)) (maps.entries R.net_sets))

  of_mapped : {A : Type 0} (f : A → ItemKey × Item) (xs : List A) → list_any t (filter s (map f xs)) ≡ list_any (λ x. t (f x)) (filter (λ x. s (f x)) xs)
  of_mapped f xs = ap (list_any t) (filter-map s f xs) ∙ any-map t f (filter (λ x. s (f x)) xs)

  some_item : list_any t (filter s (items_of R)) ≡ (some_endpoint || some_set)
  some_item =
      let endpoints = map of_endpoint (maps.entries R.endpoints) in
      let sets = map of_set (maps.entries R.net_sets) in
      ap (list_any t) (filter-append s endpoints sets)
      ∙ list_any-append t (filter s endpoints) (filter s sets)
      ∙ (λ i. of_mapped of_endpoint (maps.entries R.endpoints) i || of_mapped of_set (maps.entries R.net_sets) i)

  -- the item at a key is among them
  from_item : (k : ItemKey) (x : Item) → item_at R k ≡ Some x → s (k, x) ≡ true → t (k, x) ≡ true → list_any t (filter s (items_of R)) ≡ true
  from_item (item_key.Endpoint ns name) x at p q = some_item ∙ by_value (maps.get R.endpoints k) refl at
    where
      k : ItemKey
      k = item_key.Endpoint ns name

      by_value : (o : Option Endpoint) → maps.get R.endpoints k ≡ o → option_map item.Endpoint o ≡ Some x → (some_endpoint || some_set) ≡ true
      by_value None is at = cc
      by_value (Some e) is at =
          let same : item.Endpoint e ≡ x = cc in
          or_left some_endpoint some_set
          (from_entry item_total exact_item R.endpoints (λ x. s (of_endpoint x)) (λ x. t (of_endpoint x)) k e is (ap (λ y. s (k, y)) same ∙ p) (ap (λ y. t (k, y)) same ∙ q))
  from_item (item_key.NetSet ns name) x at p q = some_item ∙ by_value (maps.get R.net_sets k) refl at
    where
      k : ItemKey
      k = item_key.NetSet ns name

      by_value : (o : Option NetSet) → maps.get R.net_sets k ≡ o → option_map item.NetSet o ≡ Some x → (some_endpoint || some_set) ≡ true
      by_value None is at = cc
      by_value (Some e) is at =
          let same : item.NetSet e ≡ x = cc in
          or_right some_endpoint some_set
          (from_entry item_total exact_item R.net_sets (λ x. s (of_set x)) (λ x. t (of_set x)) k e is (ap (λ y. s (k, y)) same ∙ p) (ap (λ y. t (k, y)) same ∙ q))

  -- and each of them is the item at its key
  found_item : {dg : Digest} {n : index.Inputs} {a : active.Inputs} {r : resolver.Inputs} {m : members.Inputs} → IsTied dg R n a r m → list_any t (filter s (items_of R)) ≡ true → (x : ItemKey × Item) × ((item_at R x.0 ≡ Some x.1) × ((s x ≡ true) × (t x ≡ true)))
  found_item tied h = by_kind (either some_endpoint some_set (sym some_item ∙ h))
    where
      by_kind : (some_endpoint ≡ true) ⊎ (some_set ≡ true) → (x : ItemKey × Item) × ((item_at R x.0 ≡ Some x.1) × ((s x ≡ true) × (t x ≡ true)))
      by_kind (inl g) =
          let x = found_entry item_total exact_item R.endpoints (λ x. s (of_endpoint x)) (λ x. t (of_endpoint x)) g in
          (of_endpoint x.0, (endpoint_item tied x.0.0 x.0.1 x.1.0, x.1.1))
      by_kind (inr g) =
          let x = found_entry item_total exact_item R.net_sets (λ x. s (of_set x)) (λ x. t (of_set x)) g in
          (of_set x.0, (set_item tied x.0.0 x.0.1 x.1.0, x.1.1))

-- ---- members

abbrev same_member : Member → Member → Bool
same_member q k = eq_by_cmp member_cmp.cmp-value.it q k

-- a member of what items contribute is one that some of them contributes
in_contributions : (u : SetUse) (xs : List (ItemKey × Item)) (q : Member) → set.contains {R = member_cmp.cmp-value.it} (collected (marked (contributions u xs))) q ≡ list_any (λ x. list_any (same_member q) (contributed u x.1)) xs
in_contributions u xs q =
    maps.contains_key-keys (collected (marked (contributions u xs))) q
    ∙ any-collected member_laws.total-law exact_member (same_member q) (contributions u xs)
    ∙ any-flat_map (same_member q) (λ x. contributed u x.1) xs

module _ {dg : Digest} {R : Resources} {n : index.Inputs} {a : active.Inputs} {r : resolver.Inputs} {m : members.Inputs} (tied : IsTied dg R n a r m) (u : SetUse) (matched : (i : ItemKey) → set.contains m.matched (text_of u, i) ≡ holds_at n u.selector i) where
  abbrev is_matched : ItemKey × Item → Bool
  is_matched x = set.contains m.matched (text_of u, x.0)

  abbrev is_selected : ItemKey × Item → Bool
  is_selected x = holds u.selector (labels_of R x)

  tests_alike : (k : ItemKey) (x : Item) → item_at R k ≡ Some x → is_matched (k, x) ≡ is_selected (k, x)
  tests_alike k x at = matched k ∙ holds_item tied u.selector k x at

  some_alike : (t : ItemKey × Item → Bool) → list_any t (matched_items m.items m.matched (text_of u)) ≡ list_any t (selected R u.selector)
  some_alike t = same_truth _ _
      (λ h. let x = found_entry item_total exact_item m.items is_matched t h in
      let at : item_at R x.0.0 ≡ Some x.0.1 = sym (tied.contributors x.0.0) ∙ x.1.0 in
      from_item R is_selected t x.0.0 x.0.1 at (sym (tests_alike x.0.0 x.0.1 at) ∙ x.1.1.0) x.1.1.1)
      (λ h. let x = found_item R is_selected t tied h in
      from_entry item_total exact_item m.items is_matched t x.0.0 x.0.1 (tied.contributors x.0.0 ∙ x.1.0) (tests_alike x.0.0 x.0.1 x.1.0 ∙ x.1.1.0) x.1.1.1)

  pub members_alike : members_for m.items m.matched u ≡ set_members R u
  members_alike = same_members (members_for m.items m.matched u) (set_members R u) (λ q.
      in_contributions u (matched_items m.items m.matched (text_of u)) q
      ∙ some_alike (λ x. list_any (same_member q) (contributed u x.1))
      ∙ sym (in_contributions u (selected R u.selector) q))
