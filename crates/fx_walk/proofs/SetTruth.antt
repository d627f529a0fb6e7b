-- What the sets of the wanted view hold for is what the selectors and the named ports hold for that they stand for.
use Rattle.std.proofs.Common.{◌≡◌, ◌≤◌, ◌+◌, ◌-◌, ◌*◌, ◌/◌, ◌^◌, ℕ, Bool, true, false, not, ◌&&◌, ◌||◌, cond, List, [], ◌∷◌, ◌++◌, map, Option, Some, None, option_map, refl, sym, ap, ◌∙◌, subst, arith, eq-eqb}
use Rattle.std.specs.Prelude.{◌==◌, nat_eq, filter, if◌then◌else◌}
use Rattle.std.proofs.lemmas.List.Folds.{list_any-append}
use Rattle.std.specs.List.{AllByRecursion, list_any, flat_map}
use Rattle.std.specs.Str.{bytes_eq}
use Rattle.fx_base.specs.Same.{same_numbers}
use Rattle.fx_base.specs.Set as set
use Rattle.fx_base.specs.Nets.{stored, lower_half, upper_half}
use Rattle.fx_base.proofs.AnyCollected.{any-collected}
use Rattle.fx_base.proofs.AnyIn.{same_truth}
use Rattle.fx_base.specs.declared.net.Ipv4.{Ipv4}
use Rattle.fx_base.specs.declared.net.Net.{Net}
use Rattle.fx_base.specs.declared.net.Proto.{Proto}
use Rattle.fx_selector.specs.Tree.{Tree}
use Rattle.fx_selector.specs.Truth.{holds}
use Rattle.fx_names.specs.Digests.{Digest}
use Rattle.fx_model.specs.declared.chain.End.{End}
use Rattle.fx_model.specs.declared.ids.ItemKey.{ItemKey}
use Rattle.fx_model.specs.declared.member.Member.{Member}
use Rattle.fx_model.specs.declared.member.Member.TheVariants as member
use Rattle.fx_model.specs.declared.packet.Packet.{Packet}
use Rattle.fx_model.specs.declared.resources.EndpointPort.{EndpointPort}
use Rattle.fx_model.specs.declared.resources.Item.{Item}
use Rattle.fx_model.specs.declared.resources.Item.TheVariants as item
use Rattle.fx_model.specs.declared.resources.Resources.{Resources}
use Rattle.fx_model.specs.declared.rules.PortSpec.{PortSpec}
use Rattle.fx_model.specs.declared.rules.PortSpec.TheVariants.{Number, Named}
use Rattle.fx_model.specs.declared.rules.Side.{Side}
use Rattle.fx_model.specs.declared.set_use.SetUse.{SetUse}
use Rattle.fx_model.specs.Criteria.{address_at, port_at, in_net, lies_in, lies_in_given}
use Rattle.fx_base.specs.Given.{is_given}
use Rattle.fx_model.specs.Labels.{labels_of}
use Rattle.fx_model.specs.Machine.{member_holds, set_holds}
use Rattle.fx_model.specs.Messages.{members_of}
use Rattle.fx_model.specs.Policy.{selects_address, selected_given, not_selected_given, has_port, port_holds, some_port, some_port_given, side_matches}
use Rattle.fx_model.specs.Resources.{items_of}
use Rattle.fx_model.specs.Sets.{nets_use, ports_use, ports_protocol, selector_or_all, selector_uses, port_uses, side_uses, item_nets, item_ports, is_port, ports_at, contributed, contributions, selected, use_name}
use Rattle.fx_model.specs.Views.{view_of, set_name, view_port, view_side}
use Rattle.fx_model.specs.ViewPolicy.{view_port_holds, some_view_port, some_view_port_given, in_given_set, not_in_given_set, view_side_matches}
use Rattle.fx_model.proofs.Orders.{exact_member}
use Rattle.fx_laws.proofs.SetKinds.{member_total}
use Rattle.fx_laws.proofs.Uses.{all-first, all-second}
use Rattle.fx_walk.proofs.KnownSets.{IsKnown}

-- ---- tests of lists

unmoved : (a : Bool) → (a || false) ≡ a
unmoved true = refl
unmoved false = refl

no_second : (a : Bool) → false ≡ (a && false)
no_second true = refl
no_second false = refl

one_first : (a b c : Bool) → ((a && b) || (a && c)) ≡ (a && (b || c))
one_first true b c = refl
one_first false b c = refl

one_second : (a b c : Bool) → ((a && c) || (b && c)) ≡ ((a || b) && c)
one_second true true true = refl
one_second true true false = refl
one_second true false true = refl
one_second true false false = refl
one_second false b c = refl

any-map : {A B : Type 0} (p : B → Bool) (f : A → B) (xs : List A) → list_any p (map f xs) ≡ list_any (λ x. p (f x)) xs
any-map p f [] = refl
any-map p f (x ∷ xs) = ap (λ b. p (f x) || b) (any-map p f xs)

any-flat_map : {A B : Type 0} (p : B → Bool) (f : A → List B) (q : A → Bool) → ((x : A) → list_any p (f x) ≡ q x) → (xs : List A) → list_any p (flat_map f xs) ≡ list_any q xs
any-flat_map p f q h [] = refl
any-flat_map p f q h (x ∷ xs) = list_any-append p (f x) (flat_map f xs) ∙ (λ i. h x i || any-flat_map p f q h xs i)

any-filter : {A : Type 0} (chosen p q : A → Bool) → ((x : A) → (chosen x && p x) ≡ q x) → (xs : List A) → list_any p (filter chosen xs) ≡ list_any q xs
any-filter chosen p q h [] = refl
any-filter chosen p q h (x ∷ xs) = by_test (any-filter chosen p q h xs) (chosen x) ∙ ap (λ b. b || list_any q xs) (h x)
  where
    by_test : list_any p (filter chosen xs) ≡ list_any q xs → (b : Bool) → list_any p (cond b (x ∷ filter chosen xs) (filter chosen xs)) ≡ ((b && p x) || list_any q xs)
    by_test rest true = ap (λ b. p x || b) rest
    by_test rest false = rest

-- what the chosen ones give
any-chosen : {A B : Type 0} (chosen : A → Bool) (f : A → List B) (p : B → Bool) (q : A → Bool) → ((x : A) → list_any p (f x) ≡ q x) → (xs : List A) → list_any p (flat_map f (filter chosen xs)) ≡ list_any (λ x. chosen x && q x) xs
any-chosen chosen f p q h xs =
    any-flat_map p f q h (filter chosen xs) ∙ any-filter chosen q (λ x. chosen x && q x) (λ x. refl) xs

swapped : (m n : ℕ) → nat_eq m n ≡ nat_eq n m
swapped m n = same_truth (nat_eq m n) (nat_eq n m) (λ h. eq-eqb n m (sym (same_numbers m n h))) (λ h. eq-eqb m n (sym (same_numbers n m h)))

-- ---- a net of length 0 and its two halves

unequal : (m n : ℕ) → nat_eq m n ≡ false → m ≡ n → ⊥
unequal m n h is = let wrong : true ≡ false = sym (eq-eqb m n is) ∙ h in cc

-- y halved is z
either_half : (y z k : ℕ) → 2 * z ≤ y → y ≤ 2 * z + 1 → (nat_eq y (2 * k) || (nat_eq y (2 * k + 1) || false)) ≡ nat_eq z k
either_half y z k low high = by_tests (nat_eq y (2 * k)) (nat_eq y (2 * k + 1)) (nat_eq z k) refl refl refl
  where
    by_tests : (a b c : Bool) → nat_eq y (2 * k) ≡ a → nat_eq y (2 * k + 1) ≡ b → nat_eq z k ≡ c → (a || (b || false)) ≡ c
    by_tests true b true p q r = refl
    by_tests true b false p q r = absurd (omega (arith, same_numbers y (2 * k) p, unequal z k r))
    by_tests false true true p q r = refl
    by_tests false true false p q r = absurd (omega (arith, same_numbers y (2 * k + 1) q, unequal z k r))
    by_tests false false true p q r = absurd (omega (arith, unequal y (2 * k) p, unequal y (2 * k + 1) q, same_numbers z k r))
    by_tests false false false p q r = refl

module _ (n : Net) (x : ℕ) where
  halves_hold : n.len ≡ 0 → (in_net (lower_half n) x || (in_net (upper_half n) x || false)) ≡ in_net n x
  halves_hold none =
      let k = n.addr.0 / 2 ^ (32 - 0) in
      let whole : 2 ^ (32 - 0) * (n.addr.0 / 2 ^ (32 - 0)) ≡ n.addr.0 = subst (λ (l : ℕ). 2 ^ (32 - l) * (n.addr.0 / 2 ^ (32 - l)) ≡ n.addr.0) none n.no_host_bits in
      let lower : (lower_half n).addr.0 / 2 ^ (32 - 1) ≡ 2 * k = omega (arith, whole) in
      let upper : (upper_half n).addr.0 / 2 ^ (32 - 1) ≡ 2 * k + 1 = omega (arith, whole) in
      (λ i. nat_eq (x / 2 ^ (32 - 1)) (lower i) || (nat_eq (x / 2 ^ (32 - 1)) (upper i) || false))
      ∙ either_half (x / 2 ^ (32 - 1)) (x / 2 ^ (32 - 0)) k (omega arith) (omega arith)
      ∙ ap (λ (l : ℕ). nat_eq (x / 2 ^ (32 - l)) (n.addr.0 / 2 ^ (32 - l))) (sym none)

  stored_holds : list_any (λ m. in_net m x) (stored n) ≡ in_net n x
  stored_holds = by_test (n.len == 0) refl
    where
      by_test : (b : Bool) → (n.len == 0) ≡ b → list_any (λ m. in_net m x) (if b then lower_half n ∷ upper_half n ∷ [] else n ∷ []) ≡ in_net n x
      by_test true h = halves_hold (same_numbers n.len 0 h)
      by_test false h = unmoved (in_net n x)

-- ---- what items give

module _ (a : Packet) (end : End) where
  abbrev holds_for : Member → Bool
  holds_for m = member_holds end a m

  nets_hold : (i : Item) → list_any holds_for (map member.Net (flat_map stored (item_nets i))) ≡ lies_in (item_nets i) (address_at end a)
  nets_hold i =
      any-map holds_for member.Net (flat_map stored (item_nets i))
      ∙ any-flat_map (λ m. in_net m (address_at end a)) stored (λ n. in_net n (address_at end a)) (λ n. stored_holds n (address_at end a)) (item_nets i)

  -- a port of the packet's protocol and number
  abbrev is_its : EndpointPort → Bool
  is_its q = nat_eq a.proto.0 q.proto.0 && nat_eq (port_at end a) q.number

  ports_at_hold : (qs : List EndpointPort) (b : Ipv4) → list_any holds_for (ports_at qs b) ≡ (nat_eq (address_at end a) b.0 && list_any is_its qs)
  ports_at_hold [] b = no_second (nat_eq (address_at end a) b.0)
  ports_at_hold (q ∷ qs) b =
      ap (λ c. (nat_eq (address_at end a) b.0 && is_its q) || c) (ports_at_hold qs b) ∙ one_first (nat_eq (address_at end a) b.0) (is_its q) (list_any is_its qs)

  addresses_hold : (c : Bool) (bs : List Ipv4) → list_any (λ b. nat_eq (address_at end a) b.0 && c) bs ≡ (list_any (λ b. nat_eq (address_at end a) b.0) bs && c)
  addresses_hold c [] = refl
  addresses_hold c (b ∷ bs) =
      ap (λ r. (nat_eq (address_at end a) b.0 && c) || r) (addresses_hold c bs)
      ∙ one_second (nat_eq (address_at end a) b.0) (list_any (λ b. nat_eq (address_at end a) b.0) bs) c

  once : (s m y : Bool) → ((s && m) && (s && y)) ≡ (s && (m && y))
  once true m y = refl
  once false m y = refl

  module _ (p : Proto) (name : List ℕ) (same : a.proto.0 ≡ p.0) where
    abbrev is_named : EndpointPort → Bool
    is_named q = nat_eq q.proto.0 a.proto.0 && (bytes_eq q.name name && nat_eq (port_at end a) q.number)

    port_holds_so : (q : EndpointPort) → (is_port p name q && is_its q) ≡ is_named q
    port_holds_so q =
        (λ i. (nat_eq q.proto.0 (sym same i) && bytes_eq q.name name) && (swapped a.proto.0 q.proto.0 i && nat_eq (port_at end a) q.number))
        ∙ once (nat_eq q.proto.0 a.proto.0) (bytes_eq q.name name) (nat_eq (port_at end a) q.number)

    ports_hold : (i : Item) → list_any holds_for (item_ports p name i) ≡ has_port name a.proto.0 (address_at end a) (port_at end a) i
    ports_hold (item.Endpoint e) =
        let qs = filter (is_port p name) e.ports in
        any-flat_map holds_for (ports_at qs) (λ b. nat_eq (address_at end a) b.0 && list_any is_its qs) (ports_at_hold qs) e.addresses
        ∙ addresses_hold (list_any is_its qs) e.addresses
        ∙ ap (λ c. list_any (λ b. nat_eq (address_at end a) b.0) e.addresses && c) (any-filter (is_port p name) is_its is_named port_holds_so e.ports)
    ports_hold (item.NetSet s) = refl
    ports_hold (item.Profile x) = refl
    ports_hold (item.Tier t) = refl
    ports_hold (item.Policy x) = refl

-- ---- sets that are known

module _ (dg : Digest) (R : Resources) (a : Packet) where
  known_holds : (end : End) (u : SetUse) → IsKnown dg R u → set_holds (view_of dg R).sets end (use_name dg u) a ≡ list_any (member_holds end a) (contributions u (selected R u.selector))
  known_holds end u known =
      ap (λ o. list_any (member_holds end a) (set.items (members_of o))) known
      ∙ any-collected member_total exact_member (member_holds end a) (contributions u (selected R u.selector))

  set_of_nets : (end : End) (t : Tree) → IsKnown dg R (nets_use t) → set_holds (view_of dg R).sets end (set_name dg t) a ≡ selects_address R t (address_at end a)
  set_of_nets end t known =
      known_holds end (nets_use t) known
      ∙ any-chosen (λ x. holds t (labels_of R x)) (λ (x : ItemKey × Item). contributed (nets_use t) x.1) (member_holds end a) (λ x. lies_in (item_nets x.1) (address_at end a)) (λ x. nets_hold a end x.1) (items_of R)

  set_of_ports : (end : End) (p : Proto) (name : List ℕ) (t : Tree) → a.proto.0 ≡ p.0 → IsKnown dg R (ports_use p name t) → set_holds (view_of dg R).sets end (use_name dg (ports_use p name t)) a ≡ list_any (λ i. holds t (labels_of R i) && has_port name a.proto.0 (address_at end a) (port_at end a) i.1) (items_of R)
  set_of_ports end p name t same known =
      known_holds end (ports_use p name t) known
      ∙ any-chosen (λ x. holds t (labels_of R x)) (λ (x : ItemKey × Item). contributed (ports_use p name t) x.1) (member_holds end a) (λ x. has_port name a.proto.0 (address_at end a) (port_at end a) x.1) (λ x. ports_hold a end p name same x.1) (items_of R)

  -- ---- sides of rules

  selector_same : (end : End) (o : Option Tree) → AllByRecursion (IsKnown dg R) (selector_uses o) → in_given_set (view_of dg R).sets end (option_map (set_name dg) o) a ≡ selected_given R o (address_at end a)
  selector_same end None known = refl
  selector_same end (Some t) known = set_of_nets end t known.0

  not_selector_same : (end : End) (o : Option Tree) → AllByRecursion (IsKnown dg R) (selector_uses o) → not_in_given_set (view_of dg R).sets end (option_map (set_name dg) o) a ≡ not_selected_given R o (address_at end a)
  not_selector_same end None known = refl
  not_selector_same end (Some t) known = ap not (set_of_nets end t known.0)

  module _ (end : End) (p : Option Proto) (t : Option Tree) where
    -- the packet has the rule's protocol where the rule lists ports
    abbrev pub IsOfProtocol : List PortSpec → Type 0
    IsOfProtocol ps = is_given ps ≡ true → a.proto.0 ≡ (ports_protocol p).0

    port_same : (x : PortSpec) → a.proto.0 ≡ (ports_protocol p).0 → AllByRecursion (IsKnown dg R) (port_uses p t x) → view_port_holds (view_of dg R).sets end a (view_port dg p t x) ≡ port_holds R t end a x
    port_same (Number r) same known = refl
    port_same (Named name) same known = set_of_ports end (ports_protocol p) name (selector_or_all t) same known.0

    ports_same : (ps : List PortSpec) → IsOfProtocol ps → AllByRecursion (IsKnown dg R) (flat_map (port_uses p t) ps) → some_view_port (view_of dg R).sets end (map (view_port dg p t) ps) a ≡ some_port R t end ps a
    ports_same [] same known = refl
    ports_same (x ∷ ps) same known =
        let here = port_same x (same refl) (all-first (IsKnown dg R) (port_uses p t x) (flat_map (port_uses p t) ps) known) in
        let rest = ports_same ps (λ _. same refl) (all-second (IsKnown dg R) (port_uses p t x) (flat_map (port_uses p t) ps) known) in
        λ i. here i || rest i

    given_ports_same : (ps : List PortSpec) → IsOfProtocol ps → AllByRecursion (IsKnown dg R) (flat_map (port_uses p t) ps) → some_view_port_given (view_of dg R).sets end (map (view_port dg p t) ps) a ≡ some_port_given R t end ps a
    given_ports_same [] same known = refl
    given_ports_same (x ∷ ps) same known = ports_same (x ∷ ps) same known

  -- a side of a rule of this protocol asks the same of the packet in the view as among the resources
  pub side_same : (end : End) (p : Option Proto) (s : Side) → (is_given s.ports ≡ true → a.proto.0 ≡ (ports_protocol p).0) → (is_given s.not_ports ≡ true → a.proto.0 ≡ (ports_protocol p).0) → AllByRecursion (IsKnown dg R) (side_uses p s) → view_side_matches (view_of dg R).sets end (view_side dg p s) a ≡ side_matches R end s a
  side_same end p s some others known =
      let Known = λ (u : SetUse). IsKnown dg R u in
      let ports = flat_map (port_uses p s.selector) s.ports in
      let not_ports = flat_map (port_uses p s.selector) s.not_ports in
      let behind = all-second Known (selector_uses s.selector) (selector_uses s.not_selector ++ (ports ++ not_ports)) known in
      let last = all-second Known (selector_uses s.not_selector) (ports ++ not_ports) behind in
      let in_set = selector_same end s.selector (all-first Known (selector_uses s.selector) (selector_uses s.not_selector ++ (ports ++ not_ports)) known) in
      let not_in_set = not_selector_same end s.not_selector (all-first Known (selector_uses s.not_selector) (ports ++ not_ports) behind) in
      let a_port = given_ports_same end p s.selector s.ports some (all-first Known ports not_ports last) in
      let other_port = ports_same end p s.selector s.not_ports others (all-second Known ports not_ports last) in
      λ i. (lies_in_given s.nets (address_at end a) && not (lies_in s.not_nets (address_at end a))) && ((in_set i && not_in_set i) && (a_port i && not (other_port i)))
