-- Each set of the wanted view has members of its kind.
use Rattle.std.proofs.Common.{◌≡◌, ℕ, Bool, true, false, not, ◌||◌, List, [], ◌∷◌, map, Some, None, refl, sym, ap, ◌∙◌, arith}
use Rattle.std.specs.Prelude.{◌==◌, nat_le, filter, if◌then◌else◌}
use Rattle.std.proofs.lemmas.Bool.Decides.{nat_tests}
use Rattle.std.specs.List.{AllByRecursion, flat_map, list_any}
use Rattle.std.specs.Cmp.{IsTotalOrder}
use Rattle.std.specs.FinMap as maps
use Rattle.fx_base.specs.Extended.{collected}
use Rattle.fx_base.specs.Set as set
use Rattle.fx_base.specs.Nets.{stored, lower_half, upper_half}
use Rattle.fx_base.proofs.AnyCollected.{any-collected}
use Rattle.fx_base.proofs.AnyIn.{any_from_item}
use Rattle.fx_base.proofs.AtKey.{get_empty}
use Rattle.fx_base.proofs.FilledLemmas.{at_filled}
use Rattle.fx_base.specs.declared.net.Ipv4.{Ipv4}
use Rattle.fx_base.specs.declared.net.Net.{Net}
use Rattle.fx_base.specs.declared.net.Proto.{Proto}
use Rattle.fx_base.specs.declared.set_name.SetKind.{SetKind}
use Rattle.fx_base.specs.declared.set_name.SetKind.TheVariants.{Nets, Ports}
use Rattle.fx_selector.specs.Tree.{Tree}
use Rattle.fx_names.specs.Digests.{Digest}
use Rattle.fx_model.specs.contracts.member.MemberOrd.TheImpl.{cmp-value}
use Rattle.fx_model.specs.contracts.member.MemberOrd.TheImpl.Laws as member_laws
use Rattle.fx_model.specs.declared.ids.ItemKey.{ItemKey}
use Rattle.fx_model.specs.declared.member.Member.{Member}
use Rattle.fx_model.specs.declared.member.Member.TheVariants as member
use Rattle.fx_model.specs.declared.resources.EndpointPort.{EndpointPort}
use Rattle.fx_model.specs.declared.resources.Item.{Item}
use Rattle.fx_model.specs.declared.resources.Item.TheVariants as item
use Rattle.fx_model.specs.declared.resources.Resources.{Resources}
use Rattle.fx_model.specs.declared.set_use.SetUse.{SetUse}
use Rattle.fx_model.specs.Messages.{Members}
use Rattle.fx_model.specs.Sets.{nets_use, ports_use, is_port, ports_at, item_nets, item_ports, contributed, selected, set_members, use_name}
use Rattle.fx_model.specs.Shapes.{is_of, is_member_of, AreOfKinds}
use Rattle.fx_model.specs.Views.{view_of, wanted_uses, set_entry}
use Rattle.fx_model.proofs.Orders.{exact_member}
use Rattle.fx_laws.proofs.Uses.{all-flat_map, all-map, all_wanted}

pub member_total : IsTotalOrder cmp-value.it
member_total = member_laws.total-law

abbrev AreOf : SetKind → List Member → Type 0
AreOf k ms = AllByRecursion (λ m. is_of k m ≡ true) ms

-- ---- what items contribute

some_bits : (len : ℕ) → (len == 0) ≡ false → nat_le 1 len ≡ true
some_bits len h = grind (arith, nat_tests, h)

abbrev AreLong : List Net → Type 0
AreLong ns = AllByRecursion (λ n. nat_le 1 n.len ≡ true) ns

stored_long : (n : Net) → AreLong (stored n)
stored_long n = by_test (n.len == 0) refl
  where
    by_test : (b : Bool) → (n.len == 0) ≡ b → AreLong (if b then lower_half n ∷ upper_half n ∷ [] else n ∷ [])
    by_test true h = (refl, (refl, tt))
    by_test false h = (some_bits n.len h, tt)

all_stored_long : (ns : List Net) → AllByRecursion (λ n. AreLong (stored n)) ns
all_stored_long [] = tt
all_stored_long (n ∷ ns) = (stored_long n, all_stored_long ns)

nets_of_kind : (ns : List Net) → AreOf Nets (map member.Net (flat_map stored ns))
nets_of_kind ns =
    all-map (λ m. is_of Nets m ≡ true) member.Net (flat_map stored ns)
    (all-flat_map (λ n. nat_le 1 n.len ≡ true) stored ns (all_stored_long ns))

ports_of_kind : (ports : List EndpointPort) (a : Ipv4) → AreOf Ports (ports_at ports a)
ports_of_kind [] a = tt
ports_of_kind (q ∷ ports) a = (refl, ports_of_kind ports a)

addresses_of_kind : (ports : List EndpointPort) (addresses : List Ipv4) → AllByRecursion (λ a. AreOf Ports (ports_at ports a)) addresses
addresses_of_kind ports [] = tt
addresses_of_kind ports (a ∷ addresses) = (ports_of_kind ports a, addresses_of_kind ports addresses)

item_ports_of_kind : (p : Proto) (name : List ℕ) (i : Item) → AreOf Ports (item_ports p name i)
item_ports_of_kind p name (item.Endpoint e) =
    all-flat_map (λ m. is_of Ports m ≡ true) (ports_at (filter (is_port p name) e.ports)) e.addresses (addresses_of_kind (filter (is_port p name) e.ports) e.addresses)
item_ports_of_kind p name (item.NetSet s) = tt
item_ports_of_kind p name (item.Profile x) = tt
item_ports_of_kind p name (item.Tier t) = tt
item_ports_of_kind p name (item.Policy x) = tt

each_of_kind : (k : SetKind) (u : SetUse) → ((i : Item) → AreOf k (contributed u i)) → (xs : List (ItemKey × Item)) → AllByRecursion (λ x. AreOf k (contributed u x.1)) xs
each_of_kind k u all [] = tt
each_of_kind k u all (x ∷ xs) = (all x.1, each_of_kind k u all xs)

-- ---- what a set of them has

none_other : (k : SetKind) (ms : List Member) → AreOf k ms → list_any (λ m. not (is_of k m)) ms ≡ false
none_other k [] h = refl
none_other k (m ∷ ms) h = ap (λ b. not b || list_any (λ x. not (is_of k x)) ms) h.0 ∙ none_other k ms h.1

of_kind : (k : SetKind) (ms : List Member) → AreOf k ms → (x : Member) → set.contains {R = cmp-value.it} (collected (set.marked ms)) x ≡ true → is_of k x ≡ true
of_kind k ms all x there = by_test (is_of k x) refl
  where
    by_test : (b : Bool) → is_of k x ≡ b → is_of k x ≡ true
    by_test true is = is
    by_test false is =
        let other = λ (m : Member). not (is_of k m) in
        let some : list_any other (set.items {R = cmp-value.it} (collected (set.marked ms))) ≡ true = any_from_item member_total exact_member other (collected (set.marked ms)) x (ap not is) there in
        let wrong : false ≡ true = sym (none_other k ms all) ∙ sym (any-collected member_total exact_member other ms) ∙ some in
        cc

module _ (dg : Digest) (R : Resources) where
  -- the members of a use are of the kind that its name tells
  abbrev HasItsKind : List ℕ → Members → Type 0
  HasItsKind name members = (x : Member) → set.contains members x ≡ true → is_member_of name x ≡ true

  nets_have : (t : Tree) → HasItsKind (use_name dg (nets_use t)) (set_members R (nets_use t))
  nets_have t =
      of_kind Nets (flat_map (λ (x : ItemKey × Item). contributed (nets_use t) x.1) (selected R t))
      (all-flat_map (λ m. is_of Nets m ≡ true) (λ (x : ItemKey × Item). contributed (nets_use t) x.1) (selected R t) (each_of_kind Nets (nets_use t) (λ i. nets_of_kind (item_nets i)) (selected R t)))

  ports_have : (p : Proto) (name : List ℕ) (t : Tree) → HasItsKind (use_name dg (ports_use p name t)) (set_members R (ports_use p name t))
  ports_have p name t =
      of_kind Ports (flat_map (λ (x : ItemKey × Item). contributed (ports_use p name t) x.1) (selected R t))
      (all-flat_map (λ m. is_of Ports m ≡ true) (λ (x : ItemKey × Item). contributed (ports_use p name t) x.1) (selected R t) (each_of_kind Ports (ports_use p name t) (item_ports_of_kind p name) (selected R t)))

  no_members : {A : Type 0} (ms : Members) → None ≡ Some ms → A
  no_members ms is = cc

  pub wanted_sets-of-kinds : AreOfKinds (view_of dg R).sets
  wanted_sets-of-kinds = at_filled HasItsKind maps.empty (map (set_entry dg R) (wanted_uses R))
      (λ q ms is. no_members ms (sym (get_empty q) ∙ is))
      (all-map (λ (e : List ℕ × Members). HasItsKind e.0 e.1) (set_entry dg R) (wanted_uses R) (all_wanted (λ u. HasItsKind (use_name dg u) (set_members R u)) nets_have ports_have R))
