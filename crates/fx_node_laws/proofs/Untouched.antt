-- Items that an update doesn't touch keep their effective labels.
use Rattle.std.proofs.Common.{◌≡◌, ℕ, Bool, true, false, cond, ◌||◌, List, [], ◌∷◌, Option, Some, None, refl, sym, ap, ◌∙◌}
use Rattle.std.specs.Prelude.{option_map}
use Rattle.std.specs.Ordering.{nat_cmp, eq_by_cmp}
use Rattle.std.specs.List.{AllByRecursion, list_any}
use Rattle.std.specs.Str.{bytes_eq}
use Rattle.std.specs.Cmp.Lexicographic.{slice_cmp, nat_list_cmp_total, texts_ties}
use Rattle.std.specs.FinMap as map
use Rattle.fx_base.proofs.Found.{each}
use Rattle.fx_base.proofs.KeyCases.{bytes_exact}
use Rattle.fx_selector.specs.Truth.{LabelMap}
use Rattle.fx_model.proofs.Inheriting.{parents_in}
use Rattle.fx_model.proofs.Orders.{item_total, exact_item}
use Rattle.fx_model.specs.contracts.ids.ItemKeyOrd.TheImpl as item_cmp
use Rattle.fx_model.specs.declared.ids.ItemKey.{ItemKey}
use Rattle.fx_model.specs.declared.ids.ItemKey.TheVariants as item_key
use Rattle.fx_model.specs.declared.ids.Key.{Key}
use Rattle.fx_model.specs.declared.ids.Key.TheVariants as key
use Rattle.fx_model.specs.declared.resources.Item.{Item}
use Rattle.fx_model.specs.declared.resources.Item.TheVariants as item
use Rattle.fx_model.specs.declared.resources.Profile.{Profile}
use Rattle.fx_model.specs.declared.resources.Resources.{Resources}
use Rattle.fx_model.specs.declared.resources.Update.{Update}
use Rattle.fx_model.specs.declared.resources.Update.TheVariants as update
use Rattle.fx_model.specs.Labels.{Labelled, labelled, over, over_others, inherited, effective_labels, labels_of}
use Rattle.fx_model.specs.Resources.{after}
use Rattle.fx_model.specs.Tests.{is_key_of, has_parent, is_touched, item_at, labels_at}
use Rattle.fx_node_laws.proofs.ItemsAt.{same_item_at}
use Rattle.fx_node_laws.proofs.OneKey.{there_inserted, there_removed}

neither_first : (a b : Bool) → (a || b) ≡ false → a ≡ false
neither_first true b h = h
neither_first false b h = refl

neither_second : (a b : Bool) → (a || b) ≡ false → b ≡ false
neither_second true b h = let wrong : true ≡ false = h in cc
neither_second false b h = h

-- ---- parents

-- parents that give the same give the same together
inherited_alike : (f g : List ℕ → Option LabelMap) (names : List (List ℕ)) → AllByRecursion (λ name. f name ≡ g name) names → inherited f names ≡ inherited g names
inherited_alike f g [] h = refl
inherited_alike f g (name ∷ names) h = λ j. over_others (h.0 j) (inherited_alike f g names h.1 j)

abbrev IsOther : List ℕ → List ℕ → Type 0
IsOther name q = eq_by_cmp (slice_cmp nat_cmp) q name ≡ false

-- the names differ from one that isn't among them
others_listed : (name : List ℕ) (names : List (List ℕ)) → list_any (λ (parent : List ℕ). bytes_eq parent name) names ≡ false → AllByRecursion (IsOther name) names
others_listed name [] h = tt
others_listed name (q ∷ qs) h =
    let rest : Bool = list_any (λ (parent : List ℕ). bytes_eq parent name) qs in
    (sym (texts_ties q name) ∙ neither_first (bytes_eq q name) rest h, others_listed name qs (neither_second (bytes_eq q name) rest h))

-- ---- what was taken out

left : {A : Type 0} (b : Bool) (o : Option A) (f : A → Item) (y : Item) → option_map f (cond b None o) ≡ Some y → option_map f o ≡ Some y
left true o f y h = let wrong : None ≡ Some y = h in cc
left false o f y h = h

module _ (R : Resources) where
  -- an item that is there where an endpoint was taken out was there
  endpoint_left : (q k : ItemKey) (y : Item) → item_at (record R { endpoints = map.remove R.endpoints q }) k ≡ Some y → item_at R k ≡ Some y
  endpoint_left q (item_key.Endpoint ns name) y at =
      let k : ItemKey = item_key.Endpoint ns name in
      left (eq_by_cmp item_cmp.cmp-value.it k q) (map.get R.endpoints k) item.Endpoint y (ap (option_map item.Endpoint) (sym (map.get-remove item_total R.endpoints q k)) ∙ at)
  endpoint_left q (item_key.NetSet ns name) y at = at

  set_left : (q k : ItemKey) (y : Item) → item_at (record R { net_sets = map.remove R.net_sets q }) k ≡ Some y → item_at R k ≡ Some y
  set_left q (item_key.Endpoint ns name) y at = at
  set_left q (item_key.NetSet ns name) y at =
      let k : ItemKey = item_key.NetSet ns name in
      left (eq_by_cmp item_cmp.cmp-value.it k q) (map.get R.net_sets k) item.NetSet y (ap (option_map item.NetSet) (sym (map.get-remove item_total R.net_sets q k)) ∙ at)

  -- ---- labels

  -- an item that was there, and has the labels that it had
  kept : (S : Resources) (x : ItemKey × Item) → item_at R x.0 ≡ Some x.1 → labels_of R x ≡ labels_of S x → labels_at R x.0 ≡ Some (labels_of S x)
  kept S x at same = ap (option_map (λ (y : Item). labels_of R (x.0, y))) at ∙ ap Some same

  -- a profile changes that isn't a parent
  same_effective : (S : Resources) (name : List ℕ) → ((q : List ℕ) → IsOther name q → map.get S.profiles q ≡ map.get R.profiles q) → (y : Labelled) → has_parent y (key.Profile name) ≡ false → effective_labels R y ≡ effective_labels S y
  same_effective S name others y off =
      ap (over y.labels)
      (inherited_alike (parents_in R) (parents_in S) y.parents
      (each (IsOther name) (λ q. parents_in R q ≡ parents_in S q) (λ q other. ap (option_map (λ (p : Profile). p.labels)) (sym (others q other))) y.parents (others_listed name y.parents off)))

  -- ---- updates

  untouched_put : (k : Key) (y : Item) (x : ItemKey × Item) → item_at (after R (update.Put k y)) x.0 ≡ Some x.1 → is_touched (update.Put k y) x ≡ false → labels_at R x.0 ≡ Some (labels_of (after R (update.Put k y)) x)
  untouched_put (key.Item (item_key.Endpoint ns name)) (item.Endpoint e) x at off =
      let q : ItemKey = item_key.Endpoint ns name in
      let S : Resources = record R { endpoints = map.insert R.endpoints q e } in
      let other = neither_first (is_key_of (key.Item q) x.0) (has_parent (labelled x.0 x.1) (key.Item q)) off in
      kept S x (sym (same_item_at R S x.0 (there_inserted item_total exact_item R.endpoints q e x.0 other) refl) ∙ at) refl
  untouched_put (key.Item (item_key.NetSet ns name)) (item.NetSet s) x at off =
      let q : ItemKey = item_key.NetSet ns name in
      let S : Resources = record R { net_sets = map.insert R.net_sets q s } in
      let other = neither_first (is_key_of (key.Item q) x.0) (has_parent (labelled x.0 x.1) (key.Item q)) off in
      kept S x (sym (same_item_at R S x.0 refl (there_inserted item_total exact_item R.net_sets q s x.0 other)) ∙ at) refl
  untouched_put (key.Profile name) (item.Profile p) x at off =
      let S : Resources = record R { profiles = map.insert R.profiles name p } in
      kept S x (sym (same_item_at R S x.0 refl refl) ∙ at)
      (same_effective S name (λ q other. there_inserted nat_list_cmp_total bytes_exact R.profiles name p q other) (labelled x.0 x.1) off)
  untouched_put (key.Tier name) (item.Tier t) x at off =
      let S : Resources = record R { tiers = map.insert R.tiers name t } in
      kept S x (sym (same_item_at R S x.0 refl refl) ∙ at) refl
  untouched_put (key.Policy id) (item.Policy p) x at off =
      let S : Resources = record R { policies = map.insert R.policies id p } in
      kept S x (sym (same_item_at R S x.0 refl refl) ∙ at) refl
  -- an item of another kind than the key changes nothing
  untouched_put k y x at off = kept R x at refl

  untouched_delete : (k : Key) (x : ItemKey × Item) → item_at (after R (update.Delete k)) x.0 ≡ Some x.1 → is_touched (update.Delete k) x ≡ false → labels_at R x.0 ≡ Some (labels_of (after R (update.Delete k)) x)
  untouched_delete (key.Item (item_key.Endpoint ns name)) x at off =
      let q : ItemKey = item_key.Endpoint ns name in
      kept (record R { endpoints = map.remove R.endpoints q }) x (endpoint_left q x.0 x.1 at) refl
  untouched_delete (key.Item (item_key.NetSet ns name)) x at off =
      let q : ItemKey = item_key.NetSet ns name in
      kept (record R { net_sets = map.remove R.net_sets q }) x (set_left q x.0 x.1 at) refl
  untouched_delete (key.Profile name) x at off =
      let S : Resources = record R { profiles = map.remove R.profiles name } in
      kept S x (sym (same_item_at R S x.0 refl refl) ∙ at)
      (same_effective S name (λ q other. there_removed nat_list_cmp_total bytes_exact R.profiles name q other) (labelled x.0 x.1) off)
  untouched_delete (key.Tier name) x at off =
      let S : Resources = record R { tiers = map.remove R.tiers name } in
      kept S x (sym (same_item_at R S x.0 refl refl) ∙ at) refl
  untouched_delete (key.Policy id) x at off =
      let S : Resources = record R { policies = map.remove R.policies id } in
      kept S x (sym (same_item_at R S x.0 refl refl) ∙ at) refl

  pub untouched : (u : Update) (x : ItemKey × Item) → item_at (after R u) x.0 ≡ Some x.1 → is_touched u x ≡ false → labels_at R x.0 ≡ Some (labels_of (after R u) x)
  untouched update.InSync x at off =
      let S : Resources = record R { in_sync = true } in
      kept S x (sym (same_item_at R S x.0 refl refl) ∙ at) refl
  untouched (update.Put k y) x at off = untouched_put k y x at off
  untouched (update.Delete k) x at off = untouched_delete k x at off
