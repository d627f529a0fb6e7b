-- The labels of items among the records are those that they have as they are written, and of them slices alone have the mark.
use Rattle.std.proofs.Common.{◌≡◌, ℕ, true, false, not, ◌&&◌, List, [], ◌∷◌, map, Option, Some, None, refl, sym, ap, ◌∙◌, eq-eqb}
use Rattle.std.specs.Prelude.{nat_eq, is_some, is_none, option_map}
use Rattle.std.specs.Option.{option_or, option_map_or}
use Rattle.std.specs.List.{AllByRecursion}
use Rattle.std.specs.Str.{bytes_eq}
use Rattle.std.specs.Cmp.Lexicographic.{pointwise}
use Rattle.std.specs.FinMap as maps
use Rattle.fx_base.specs.Same.{same_bytes, both_pass}
use Rattle.fx_base.proofs.AnyIn.{same_truth}
use Rattle.fx_base.proofs.AtKey.{get_insert_same, get_empty}
use Rattle.fx_base.proofs.Found.{each, entries_found}
use Rattle.fx_selector.specs.Tree.{Tree}
use Rattle.fx_selector.specs.Truth.{LabelMap, holds}
use Rattle.fx_model.specs.declared.ids.ItemKey.{ItemKey}
use Rattle.fx_model.specs.declared.ids.Key.TheVariants as key
use Rattle.fx_model.specs.declared.policy.NetSet.{NetSet}
use Rattle.fx_model.specs.declared.resources.Endpoint.{Endpoint}
use Rattle.fx_model.specs.declared.resources.Item.{Item}
use Rattle.fx_model.specs.declared.resources.Item.TheVariants as item
use Rattle.fx_model.specs.declared.resources.Profile.{Profile}
use Rattle.fx_model.specs.declared.resources.Resources.{Resources}
use Rattle.fx_model.specs.Formed.{is_formed_namespace}
use Rattle.fx_model.specs.Labels.{over_others, inherited, effective, Labelled, labelled, effective_labels, labels_of}
use Rattle.fx_model.specs.Resources.{items_of}
use Rattle.fx_model.proofs.Orders.{item_total}
use Rattle.fx_fields.specs.declared.names.NamespacedName.{NamespacedName}
use Rattle.fx_fields.proofs.Readings.{both, first_of, second_of}
use Rattle.fx_kube_laws.proofs.Lists.{unmoved_and, nothing_and, to_map, to_both, get-over}
use Rattle.fx_laws.proofs.Parted.{parted}
use Rattle.fx_services.specs.declared.slices.Slice.{Slice}
use Rattle.fx_services.specs.Marks.{mark, full_name, is_unmarked, is_other_item}
use Rattle.fx_services.specs.Slices.{label_of, service_label, slice_labels, slice_record}
use Rattle.fx_services.specs.Lowering.{plain_tree, of_service, lowered_profile}
use Rattle.fx_services.specs.Lowerable.{is_service, are_lowerable}
use Rattle.fx_services.specs.Written.{Written, services_at}
use Rattle.fx_services.specs.WrittenVerdict.{is_of}
use Rattle.fx_services.specs.Standing.{StandsFor, IsSound}
use Rattle.fx_services.proofs.ServiceTrees.{service_free}

none_there : {A : Type 0} (o : Option A) → is_none o ≡ true → o ≡ None
none_there None e = refl
none_there (Some x) e = cc

-- ---- selectors by the mark

pub holds-unmarked : (t : Tree) (m : LabelMap) → maps.get m mark ≡ None → holds (plain_tree t) m ≡ holds t m
holds-unmarked t m e = ap (λ (o : Option (List ℕ)). holds t m && (not (is_some o) && true)) e ∙ unmoved_and (holds t m)

pub fails-marked : (t : Tree) (m : LabelMap) (label : List ℕ) → maps.get m mark ≡ Some label → holds (plain_tree t) m ≡ false
fails-marked t m label e = ap (λ (o : Option (List ℕ)). holds t m && (not (is_some o) && true)) e ∙ nothing_and (holds t m)

pub service-unmarked : (v : NamespacedName) (m : LabelMap) → maps.get m mark ≡ None → holds (of_service v) m ≡ false
service-unmarked v m e = ap (λ (o : Option (List ℕ)). option_map_or (λ x. pointwise nat_eq x (full_name v.ns v.name)) o false) e

-- ---- the label of a slice

abbrev no_labels : LabelMap
no_labels = maps.empty

no_text : (ns name : List ℕ) → pointwise nat_eq [] (full_name ns name) ≡ false
no_text [] name = refl
no_text (b ∷ bs) name = refl

itself : (s : List ℕ) → pointwise nat_eq s s ≡ true
itself [] = refl
itself (b ∷ bs) = both (nat_eq b b) (pointwise nat_eq bs bs) (eq-eqb b b refl) (itself bs)

-- full names are one where namespaces and names are
full_names : (ns name ms other : List ℕ) → is_formed_namespace ns ≡ true → is_formed_namespace ms ≡ true → pointwise nat_eq (full_name ns name) (full_name ms other) ≡ (bytes_eq ns ms && bytes_eq name other)
full_names ns name ms other e f = same_truth _ _ forth back
  where
    forth : pointwise nat_eq (full_name ns name) (full_name ms other) ≡ true → (bytes_eq ns ms && bytes_eq name other) ≡ true
    forth h =
        let parts = parted 47 refl ns ms name other e f (same_bytes (full_name ns name) (full_name ms other) h) in
        both (bytes_eq ns ms) (bytes_eq name other) (ap (bytes_eq ns) (sym parts.0) ∙ itself ns) (ap (bytes_eq name) (sym parts.1) ∙ itself name)

    back : (bytes_eq ns ms && bytes_eq name other) ≡ true → pointwise nat_eq (full_name ns name) (full_name ms other) ≡ true
    back h =
        let parts = both_pass (bytes_eq ns ms) (bytes_eq name other) h in
        let first : ns ≡ ms = same_bytes ns ms parts.0 in
        let second : name ≡ other = same_bytes name other parts.1 in
        (λ i. pointwise nat_eq (full_name ns name) (full_name (sym first i) (sym second i))) ∙ itself (full_name ns name)

-- a slice's label names the service that the slice is of
pub label-is : (v : NamespacedName) (s : Slice) → is_service v ≡ true → is_formed_namespace s.named.ns ≡ true → pointwise nat_eq (service_label s) (full_name v.ns v.name) ≡ is_of v s
label-is v s e f = by s.service
  where
    by : (o : Option (List ℕ)) → pointwise nat_eq (label_of s.named.ns o) (full_name v.ns v.name) ≡ (bytes_eq s.named.ns v.ns && option_map_or (λ name. bytes_eq name v.name) o false)
    by None = no_text v.ns v.name ∙ sym (nothing_and (bytes_eq s.named.ns v.ns))
    by (Some name) = full_names s.named.ns name v.ns v.name f (service_free v e)

module _ (W : Written) (R : Resources) (stands : StandsFor W R) (sound : IsSound W) where
  -- ---- inherited labels

  abbrev written_parents : List ℕ → Option LabelMap
  written_parents name = option_map (λ p. p.labels) (maps.get W.plain.profiles name)

  abbrev record_parents : List ℕ → Option LabelMap
  record_parents name = option_map (λ p. p.labels) (maps.get R.profiles name)

  same_parents : (name : List ℕ) → record_parents name ≡ written_parents name
  same_parents name = ap (option_map (λ p. p.labels)) (stands.profiles name) ∙ by (maps.get W.plain.profiles name)
    where
      by : (o : Option Profile) → option_map (λ p. p.labels) (option_map (lowered_profile (services_at W (key.Profile name))) o) ≡ option_map (λ p. p.labels) o
      by None = refl
      by (Some p) = refl

  -- what an item's labels are among the records
  pub same_labels : (x : Labelled) → effective_labels R x ≡ effective_labels W.plain x
  same_labels x = (λ i. effective (λ name. same_parents name i) x.labels x.parents)

  profile-unmarked : (name : List ℕ) (p : Profile) → maps.get W.plain.profiles name ≡ Some p → maps.get p.labels mark ≡ None
  profile-unmarked name p there =
      none_there (maps.get p.labels mark) (first_of (is_unmarked p.labels) (are_lowerable (services_at W (key.Profile name)) p.ingress p.egress) (sound.profiles name p there))

  -- a profile's labels over unmarked ones have no mark
  one-unmarked : (name : List ℕ) (below : LabelMap) → maps.get below mark ≡ None → (o : Option Profile) → maps.get W.plain.profiles name ≡ o → maps.get (over_others (option_map (λ p. p.labels) o) below) mark ≡ None
  one-unmarked name below h None e = h
  one-unmarked name below h (Some p) e =
      get-over p.labels below mark ∙ (λ i. option_or (profile-unmarked name p e i) (h i))

  inherited-unmarked : (names : List (List ℕ)) → maps.get (inherited written_parents names) mark ≡ None
  inherited-unmarked [] = get_empty mark
  inherited-unmarked (name ∷ names) =
      one-unmarked name (inherited written_parents names) (inherited-unmarked names) (maps.get W.plain.profiles name) refl

  -- an item whose own labels have no mark has none
  labels-unmarked : (x : Labelled) → maps.get x.labels mark ≡ None → maps.get (effective_labels W.plain x) mark ≡ None
  labels-unmarked x e =
      get-over x.labels (inherited written_parents x.parents) mark
      ∙ (λ i. option_or (e i) (inherited-unmarked x.parents i))

  -- ---- items

  abbrev pub IsUnmarked : ItemKey × Item → Type 0
  IsUnmarked i = maps.get (labels_of W.plain i) mark ≡ None

  abbrev endpoint_entry : ItemKey × Endpoint → ItemKey × Item
  endpoint_entry x = (x.0, item.Endpoint x.1)

  abbrev net_set_entry : ItemKey × NetSet → ItemKey × Item
  net_set_entry x = (x.0, item.NetSet x.1)

  endpoint-unmarked : (x : ItemKey × Endpoint) → maps.get W.plain.endpoints x.0 ≡ Some x.1 → IsUnmarked (endpoint_entry x)
  endpoint-unmarked x there =
      labels-unmarked (labelled x.0 (item.Endpoint x.1)) (none_there (maps.get x.1.labels mark) (second_of (is_other_item x.0) (is_unmarked x.1.labels) (sound.endpoints x.0 x.1 there)))

  net_set-unmarked : (x : ItemKey × NetSet) → maps.get W.plain.net_sets x.0 ≡ Some x.1 → IsUnmarked (net_set_entry x)
  net_set-unmarked x there =
      labels-unmarked (labelled x.0 (item.NetSet x.1)) (none_there (maps.get x.1.labels mark) (sound.net_sets x.0 x.1 there))

  -- no item has the mark as it is written
  pub all-unmarked : AllByRecursion IsUnmarked (items_of W.plain)
  all-unmarked =
      to_both IsUnmarked (map endpoint_entry (maps.entries W.plain.endpoints)) (map net_set_entry (maps.entries W.plain.net_sets))
      (to_map IsUnmarked endpoint_entry (maps.entries W.plain.endpoints)
      (each (λ x. maps.get W.plain.endpoints x.0 ≡ Some x.1) (λ x. IsUnmarked (endpoint_entry x)) endpoint-unmarked (maps.entries W.plain.endpoints) (entries_found item_total W.plain.endpoints)))
      (to_map IsUnmarked net_set_entry (maps.entries W.plain.net_sets)
      (each (λ x. maps.get W.plain.net_sets x.0 ≡ Some x.1) (λ x. IsUnmarked (net_set_entry x)) net_set-unmarked (maps.entries W.plain.net_sets) (entries_found item_total W.plain.net_sets)))

  -- ---- slices

  -- the record of a slice has its service's text under the mark
  pub slice-marked : (k : ItemKey) (s : Slice) → maps.get (labels_of R (k, item.Endpoint (slice_record s))) mark ≡ Some (service_label s)
  slice-marked k s =
      get-over (slice_labels s) no_labels mark
      ∙ ap (λ (o : Option (List ℕ)). option_or o (maps.get no_labels mark)) (get_insert_same no_labels mark (service_label s))
