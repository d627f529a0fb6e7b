-- What selectors select among the records: what they select as they are written, and a selector of a service the slices of it.
use Rattle.std.proofs.Common.{◌≡◌, ℕ, Bool, true, false, not, ◌&&◌, ◌||◌, List, [], ◌∷◌, map, Option, Some, None, refl, sym, ap, ◌∙◌}
use Rattle.std.specs.Prelude.{nat_eq, option_map}
use Rattle.std.specs.Option.{option_map_or}
use Rattle.std.specs.List.{list_any, list_all, AllByRecursion}
use Rattle.std.specs.Str.{bytes_eq}
use Rattle.std.specs.Cmp.Lexicographic.{pointwise}
use Rattle.std.specs.FinMap as maps
use Rattle.std.proofs.Math.Nat.{div-one}
use Rattle.std.proofs.lemmas.List.Folds.{list_any-append}
use Rattle.fx_base.proofs.Found.{each, entries_found}
use Rattle.fx_base.specs.Nets.{host}
use Rattle.fx_base.specs.declared.net.Ipv4.{Ipv4}
use Rattle.fx_selector.specs.Tree.{Tree}
use Rattle.fx_selector.specs.Truth.{holds}
use Rattle.fx_model.specs.declared.ids.ItemKey.{ItemKey}
use Rattle.fx_model.specs.declared.policy.NetSet.{NetSet}
use Rattle.fx_model.specs.declared.resources.Endpoint.{Endpoint}
use Rattle.fx_model.specs.declared.resources.Item.{Item}
use Rattle.fx_model.specs.declared.resources.Item.TheVariants as item
use Rattle.fx_model.specs.declared.resources.Resources.{Resources}
use Rattle.fx_model.specs.Criteria.{has_ports, in_net, lies_in}
use Rattle.fx_model.specs.Formed.{is_formed_namespace}
use Rattle.fx_model.specs.Labels.{labelled, labels_of}
use Rattle.fx_model.specs.Policy.{selects_address, named_port_holds}
use Rattle.fx_model.specs.Policy as policy
use Rattle.fx_model.specs.Resources.{items_of}
use Rattle.fx_model.specs.Sets.{item_nets, selector_or_all}
use Rattle.fx_model.proofs.Orders.{item_total, exact_item}
use Rattle.fx_fields.specs.declared.names.NamespacedName.{NamespacedName}
use Rattle.fx_fields.proofs.Readings.{first_of, second_of}
use Rattle.fx_kube_laws.proofs.Lists.{any-map, any-same, nothing_and}
use Rattle.fx_services.specs.declared.slice_fields.SlicePort.{SlicePort}
use Rattle.fx_services.specs.declared.slices.Slice.{Slice}
use Rattle.fx_services.specs.Marks.{star, full_name, is_other_item}
use Rattle.fx_services.specs.Slices.{named_port, slice_ports, service_label, slice_record}
use Rattle.fx_services.specs.Lowering.{plain_tree, of_service}
use Rattle.fx_services.specs.Lowerable.{is_service}
use Rattle.fx_services.specs.Written.{Written}
use Rattle.fx_services.specs.WrittenVerdict.{is_of, has_address, has_port}
use Rattle.fx_services.specs.Standing.{is_sound_slice, StandsFor, IsSound}
use Rattle.fx_service_laws.proofs.Labels.{holds-unmarked, fails-marked, service-unmarked, label-is, same_labels, IsUnmarked, all-unmarked, slice-marked}
use Rattle.fx_service_laws.proofs.Maps.{any-both}

-- ---- tests of lists

any-none : {A : Type 0} (p : A → Bool) (xs : List A) → AllByRecursion (λ x. p x ≡ false) xs → list_any p xs ≡ false
any-none p [] h = refl
any-none p (x ∷ xs) h = (λ i. h.0 i || any-none p xs h.1 i)

every : {A : Type 0} (Q : A → Type 0) → ((x : A) → Q x) → (xs : List A) → AllByRecursion Q xs
every Q f [] = tt
every Q f (x ∷ xs) = (f x, every Q f xs)

moved : (a b c : Bool) → ((a || b) || c) ≡ ((a || c) || b)
moved true b c = refl
moved false true true = refl
moved false true false = refl
moved false false c = sym (unmoved c)
  where
    unmoved : (c : Bool) → (c || false) ≡ c
    unmoved true = refl
    unmoved false = refl

unmoved_or : (a : Bool) → (a || false) ≡ a
unmoved_or true = refl
unmoved_or false = refl

-- ---- addresses

host-holds : (x : ℕ) (a : Ipv4) → in_net (host a) x ≡ nat_eq x a.0
host-holds x a = (λ i. nat_eq (div-one x i) (div-one a.0 i))

pub addresses-hold : (x : ℕ) (xs : List Ipv4) → lies_in (map host xs) x ≡ list_any (λ a. nat_eq x a.0) xs
addresses-hold x [] = refl
addresses-hold x (a ∷ xs) = (λ i. host-holds x a i || addresses-hold x xs i)

-- ---- ports of slices

-- no port of a slice has another name
no-port : (name : List ℕ) (proto y : ℕ) → bytes_eq star name ≡ false → (ports : List SlicePort) → list_any (λ q. nat_eq q.proto.0 proto && (bytes_eq q.name name && nat_eq y q.number)) (slice_ports ports) ≡ false
no-port name proto y other [] = refl
no-port name proto y other (p ∷ ps) =
    (λ i. (nat_eq p.proto.0 proto && (other i && nat_eq y p.number)) || no-port name proto y other ps i)
    ∙ ap (λ b. b || false) (nothing_and (nat_eq p.proto.0 proto))

slice-without : (name : List ℕ) (proto x y : ℕ) → bytes_eq star name ≡ false → (s : Slice) → policy.has_port name proto x y (item.Endpoint (slice_record s)) ≡ false
slice-without name proto x y other s =
    ap (λ b. has_address x s && b) (no-port name proto y other s.ports) ∙ nothing_and (has_address x s)

slice-port : (proto x y : ℕ) (s : Slice) → policy.has_port star proto x y (item.Endpoint (slice_record s)) ≡ (has_address x s && has_port proto y s)
slice-port proto x y s =
    ap (λ b. has_address x s && b) (any-map (λ q. nat_eq q.proto.0 proto && (bytes_eq q.name star && nat_eq y q.number)) named_port s.ports)

-- ---- items

module _ (W : Written) (R : Resources) (stands : StandsFor W R) (sound : IsSound W) where
  abbrev slice_entry : ItemKey × Slice → ItemKey × Item
  slice_entry s = (s.0, item.Endpoint (slice_record s.1))

  pub no_slice : (k : ItemKey) → is_other_item k ≡ true → maps.get W.slices k ≡ None
  no_slice k other = by (maps.get W.slices k) refl
    where
      by : (o : Option Slice) → maps.get W.slices k ≡ o → o ≡ None
      by None e = refl
      by (Some s) e = (let wrong : not (is_other_item k) ≡ true = first_of (not (is_other_item k)) (is_sound_slice s) (sound.slices k s e) in let contrary : false ≡ true = sym (ap not other) ∙ wrong in cc)

  pub no_endpoint : (k : ItemKey) → is_other_item k ≡ false → maps.get W.plain.endpoints k ≡ None
  no_endpoint k marked = by (maps.get W.plain.endpoints k) refl
    where
      by : (o : Option Endpoint) → maps.get W.plain.endpoints k ≡ o → o ≡ None
      by None e = refl
      by (Some x) e = (let other : is_other_item k ≡ true = first_of (is_other_item k) _ (sound.endpoints k x e) in let contrary : false ≡ true = sym marked ∙ other in cc)

  -- a test of the records' endpoints is one of the endpoints as they are written and of slices
  endpoints-any : (f : ItemKey × Endpoint → Bool) → list_any f (maps.entries R.endpoints) ≡ (list_any f (maps.entries W.plain.endpoints) || list_any (λ s. f (s.0, slice_record s.1)) (maps.entries W.slices))
  endpoints-any f = any-both item_total exact_item slice_record is_other_item R.endpoints W.plain.endpoints W.slices stands.endpoints no_slice no_endpoint f

  abbrev endpoint_entry : ItemKey × Endpoint → ItemKey × Item
  endpoint_entry x = (x.0, item.Endpoint x.1)

  abbrev net_set_entry : ItemKey × NetSet → ItemKey × Item
  net_set_entry x = (x.0, item.NetSet x.1)

  -- a test of the records' items is one of the items as they are written and of slices
  items-any : (f : ItemKey × Item → Bool) → list_any f (items_of R) ≡ (list_any f (items_of W.plain) || list_any (λ s. f (slice_entry s)) (maps.entries W.slices))
  items-any f =
      list_any-append f (map endpoint_entry (maps.entries R.endpoints)) (map net_set_entry (maps.entries R.net_sets))
      ∙ ((λ i. any-map f endpoint_entry (maps.entries R.endpoints) i || list_any f (map net_set_entry (maps.entries (stands.net_sets i))))
      ∙ (ap (λ b. b || list_any f (map net_set_entry (maps.entries W.plain.net_sets))) (endpoints-any (λ x. f (endpoint_entry x)))
      ∙ (moved (list_any (λ x. f (endpoint_entry x)) (maps.entries W.plain.endpoints)) (list_any (λ s. f (slice_entry s)) (maps.entries W.slices)) (list_any f (map net_set_entry (maps.entries W.plain.net_sets)))
      ∙ ap (λ b. b || list_any (λ s. f (slice_entry s)) (maps.entries W.slices)) (sym (of_items f)))))
    where
      of_items : (g : ItemKey × Item → Bool) → list_any g (items_of W.plain) ≡ (list_any (λ x. g (endpoint_entry x)) (maps.entries W.plain.endpoints) || list_any g (map net_set_entry (maps.entries W.plain.net_sets)))
      of_items g =
          list_any-append g (map endpoint_entry (maps.entries W.plain.endpoints)) (map net_set_entry (maps.entries W.plain.net_sets))
          ∙ ap (λ b. b || list_any g (map net_set_entry (maps.entries W.plain.net_sets))) (any-map g endpoint_entry (maps.entries W.plain.endpoints))

  -- an item's labels, among the records and as they are written
  item-labels : (i : ItemKey × Item) → labels_of R i ≡ labels_of W.plain i
  item-labels i = same_labels W R stands sound (labelled i.0 i.1)

  -- where a test agrees on all items and no slice passes it
  module _ (f g : ItemKey × Item → Bool) (same : (i : ItemKey × Item) → IsUnmarked W R stands sound i → f i ≡ g i) where
    as-written : list_any f (items_of W.plain) ≡ list_any g (items_of W.plain)
    as-written = any-same f g (items_of W.plain) (each (IsUnmarked W R stands sound) (λ i. f i ≡ g i) same (items_of W.plain) (all-unmarked W R stands sound))

    without-slices : ((s : ItemKey × Slice) → f (slice_entry s) ≡ false) → list_any f (items_of R) ≡ list_any g (items_of W.plain)
    without-slices fails =
        items-any f
        ∙ ((λ i. as-written i || any-none (λ s. f (slice_entry s)) (maps.entries W.slices) (every (λ s. f (slice_entry s) ≡ false) fails (maps.entries W.slices)) i)
        ∙ unmoved_or (list_any g (items_of W.plain)))

  -- where no item passes a test but slices
  slices-alone : (f : ItemKey × Item → Bool) → ((i : ItemKey × Item) → IsUnmarked W R stands sound i → f i ≡ false) → list_any f (items_of R) ≡ list_any (λ s. f (slice_entry s)) (maps.entries W.slices)
  slices-alone f fails =
      items-any f
      ∙ ap (λ b. b || list_any (λ s. f (slice_entry s)) (maps.entries W.slices))
      (any-none f (items_of W.plain) (each (IsUnmarked W R stands sound) (λ i. f i ≡ false) fails (items_of W.plain) (all-unmarked W R stands sound)))

  -- ---- selectors of other items

  plain-holds : (t : Tree) (i : ItemKey × Item) → IsUnmarked W R stands sound i → holds (plain_tree t) (labels_of R i) ≡ holds t (labels_of W.plain i)
  plain-holds t i unmarked =
      ap (holds (plain_tree t)) (item-labels i) ∙ holds-unmarked t (labels_of W.plain i) unmarked

  slice-fails : (t : Tree) (s : ItemKey × Slice) → holds (plain_tree t) (labels_of R (slice_entry s)) ≡ false
  slice-fails t s = fails-marked t (labels_of R (slice_entry s)) (service_label s.1) (slice-marked W R stands sound s.0 s.1)

  pub selects-same : (t : Tree) (x : ℕ) → selects_address R (plain_tree t) x ≡ selects_address W.plain t x
  selects-same t x =
      without-slices (λ i. holds (plain_tree t) (labels_of R i) && lies_in (item_nets i.1) x) (λ i. holds t (labels_of W.plain i) && lies_in (item_nets i.1) x)
      (λ i unmarked. ap (λ b. b && lies_in (item_nets i.1) x) (plain-holds t i unmarked))
      (λ s. ap (λ b. b && lies_in (item_nets (item.Endpoint (slice_record s.1))) x) (slice-fails t s))

  -- a selector that is given or isn't, for the ports of what it selects
  given-holds : (t : Option Tree) (i : ItemKey × Item) → IsUnmarked W R stands sound i → holds (selector_or_all (option_map plain_tree t)) (labels_of R i) ≡ holds (selector_or_all t) (labels_of W.plain i)
  given-holds None i unmarked = refl
  given-holds (Some t) i unmarked = plain-holds t i unmarked

  pub port-same : (t : Option Tree) (name : List ℕ) (proto x y : ℕ) → bytes_eq star name ≡ false → named_port_holds R (option_map plain_tree t) name proto x y ≡ named_port_holds W.plain t name proto x y
  port-same t name proto x y other =
      without-slices (λ i. holds (selector_or_all (option_map plain_tree t)) (labels_of R i) && policy.has_port name proto x y i.1) (λ i. holds (selector_or_all t) (labels_of W.plain i) && policy.has_port name proto x y i.1)
      (λ i unmarked. ap (λ b. b && policy.has_port name proto x y i.1) (given-holds t i unmarked))
      (λ s. ap (λ b. holds (selector_or_all (option_map plain_tree t)) (labels_of R (slice_entry s)) && b) (slice-without name proto x y other s.1) ∙ nothing_and (holds (selector_or_all (option_map plain_tree t)) (labels_of R (slice_entry s))))

  -- ---- selectors of services

  module _ (v : NamespacedName) (is : is_service v ≡ true) where
    of-others : (i : ItemKey × Item) → IsUnmarked W R stands sound i → holds (of_service v) (labels_of R i) ≡ false
    of-others i unmarked = ap (holds (of_service v)) (item-labels i) ∙ service-unmarked v (labels_of W.plain i) unmarked

    of-slices : (s : ItemKey × Slice) → is_formed_namespace s.1.named.ns ≡ true → holds (of_service v) (labels_of R (slice_entry s)) ≡ is_of v s.1
    of-slices s free =
        ap (λ (o : Option (List ℕ)). option_map_or (λ x. pointwise nat_eq x (full_name v.ns v.name)) o false) (slice-marked W R stands sound s.0 s.1)
        ∙ label-is v s.1 is free

    slice-free : (s : ItemKey × Slice) → maps.get W.slices s.0 ≡ Some s.1 → is_formed_namespace s.1.named.ns ≡ true
    slice-free s there =
        first_of (is_formed_namespace s.1.named.ns) _ (second_of (not (is_other_item s.0)) (is_sound_slice s.1) (sound.slices s.0 s.1 there))

    -- what is asked of the slices of the service
    of-service : (test : Item → Bool) (own : Slice → Bool) → ((s : Slice) → test (item.Endpoint (slice_record s)) ≡ own s) → list_any (λ i. holds (of_service v) (labels_of R i) && test i.1) (items_of R) ≡ list_any (λ s. is_of v s.1 && own s.1) (maps.entries W.slices)
    of-service test own each_same =
        slices-alone (λ i. holds (of_service v) (labels_of R i) && test i.1) (λ i unmarked. ap (λ b. b && test i.1) (of-others i unmarked))
        ∙ any-same (λ s. holds (of_service v) (labels_of R (slice_entry s)) && test (item.Endpoint (slice_record s.1))) (λ s. is_of v s.1 && own s.1) (maps.entries W.slices)
        (each (λ s. maps.get W.slices s.0 ≡ Some s.1) (λ s. (holds (of_service v) (labels_of R (slice_entry s)) && test (item.Endpoint (slice_record s.1))) ≡ (is_of v s.1 && own s.1)) (λ s there i. of-slices s (slice-free s there) i && each_same s.1 i) (maps.entries W.slices) (entries_found item_total W.slices))

    pub selects-service : (x : ℕ) → selects_address R (of_service v) x ≡ list_any (λ s. is_of v s.1 && has_address x s.1) (maps.entries W.slices)
    selects-service x = of-service (λ i. lies_in (item_nets i) x) (has_address x) (λ s. addresses-hold x s.addresses)

    pub port-service : (proto x y : ℕ) → named_port_holds R (Some (of_service v)) star proto x y ≡ list_any (λ s. is_of v s.1 && (has_address x s.1 && has_port proto y s.1)) (maps.entries W.slices)
    port-service proto x y = of-service (policy.has_port star proto x y) (λ s. has_address x s && has_port proto y s) (slice-port proto x y)

  -- ---- what is asked of a slice

  -- a port that a slice has is one of a protocol that has ports
  pub slice-protocols : (s : ItemKey × Slice) → maps.get W.slices s.0 ≡ Some s.1 → list_all (λ q. has_ports q.proto.0) s.1.ports ≡ true
  slice-protocols s there = second_of (is_formed_namespace s.1.named.ns) _ (second_of (not (is_other_item s.0)) (is_sound_slice s.1) (sound.slices s.0 s.1 there))
