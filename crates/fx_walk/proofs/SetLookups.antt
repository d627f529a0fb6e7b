-- What look-ups in a set tell: a set of nets is asked for the net of each length around an address, and one of ports for one port.
use Rattle.std.proofs.Common.{◌≡◌, ◌<◌, ◌+◌, ◌-◌, ◌*◌, ◌/◌, ◌^◌, ℕ, Bool, true, false, ◌&&◌, List, Some, refl, sym, ap, ◌∙◌, arith, eq-eqb}
use Rattle.std.specs.Prelude.{nat_eq}
use Rattle.std.proofs.Math.Nat.{mul-div_cancel_left}
use Rattle.std.proofs.lemmas.Nat.{pow_pos}
use Rattle.std.proofs.lemmas.Bool.{leb-true}
use Rattle.std.specs.List.{list_any}
use Rattle.std.specs.FinMap as maps
use Rattle.fx_base.specs.Addresses.{net_address}
use Rattle.fx_base.specs.Same.{same_numbers, both_pass}
use Rattle.fx_base.specs.SameNet.{same_net}
use Rattle.fx_base.specs.Set as set
use Rattle.fx_base.specs.SetName.{kind_of}
use Rattle.fx_base.specs.declared.net.Ipv4.{Ipv4}
use Rattle.fx_base.specs.declared.net.Net.{Net}
use Rattle.fx_base.specs.declared.set_name.SetKind.{SetKind}
use Rattle.fx_base.specs.declared.set_name.SetKind.TheVariants.{Nets, Ports}
use Rattle.fx_base.proofs.AnyIn.{any_item, any_from_item, same_truth}
use Rattle.fx_model.specs.declared.chain.End.{End}
use Rattle.fx_model.specs.declared.member.Member.{Member}
use Rattle.fx_model.specs.declared.member.Member.TheVariants as member
use Rattle.fx_model.specs.declared.packet.Packet.{Packet}
use Rattle.fx_model.specs.Criteria.{address_at, port_at, in_net}
use Rattle.fx_model.specs.Machine.{member_holds}
use Rattle.fx_model.specs.Messages.{Members}
use Rattle.fx_model.specs.Shapes.{is_of, AreOfKinds}
use Rattle.fx_model.specs.Tables.{Sets}
use Rattle.fx_model.proofs.Orders.{exact_member}
use Rattle.fx_laws.proofs.SetKinds.{member_total}

unequal : (m n : ℕ) → nat_eq m n ≡ false → m ≡ n → ⊥
unequal m n h is = let wrong : true ≡ false = sym (eq-eqb m n is) ∙ h in cc

-- a net of some length around an address contains it, and is the one of its length that does
around_contains : (n : Net) (x : ℕ) → n.addr.0 ≡ net_address x n.len → in_net n x ≡ true
around_contains n x address =
    eq-eqb (x / 2 ^ (32 - n.len)) (n.addr.0 / 2 ^ (32 - n.len))
    (sym (ap (λ k. k / 2 ^ (32 - n.len)) address ∙ mul-div_cancel_left (x / 2 ^ (32 - n.len)) (pow_pos (32 - n.len))))

one_around : (n k : Net) (x len : ℕ) → in_net n x ≡ true → n.len ≡ len → k.addr.0 ≡ net_address x len → k.len ≡ len → n ≡ k
one_around n k x len holds own address length =
    let bits : x / 2 ^ (32 - n.len) ≡ n.addr.0 / 2 ^ (32 - n.len) = same_numbers (x / 2 ^ (32 - n.len)) (n.addr.0 / 2 ^ (32 - n.len)) holds in
    let here : n.addr.0 ≡ net_address x n.len = sym n.no_host_bits ∙ ap (λ b. 2 ^ (32 - n.len) * b) (sym bits) in
    let same : n.addr.0 ≡ k.addr.0 = here ∙ ap (net_address x) own ∙ sym address in
    same_net n k (λ i. record { 0 = same i }) (own ∙ sym length)

module _ (members : Members) where
  -- each member is of this kind
  abbrev pub AreOf : SetKind → Type 0
  AreOf k = (m : Member) → set.contains members m ≡ true → is_of k m ≡ true

  -- no net of a length below this one contains the address
  abbrev pub NoneBelow : ℕ → ℕ → Type 0
  NoneBelow x len = (n : Net) → set.contains members (member.Net n) ≡ true → in_net n x ≡ true → n.len < len → ⊥

  pub none_yet : (x : ℕ) → AreOf Nets → NoneBelow x 1
  none_yet x kinds n there holds low = let long = leb-true 1 n.len (kinds (member.Net n) there) in omega arith

  pub none_more : (x len : ℕ) (k : Net) → NoneBelow x len → k.addr.0 ≡ net_address x len → k.len ≡ len → set.contains members (member.Net k) ≡ false → NoneBelow x (len + 1)
  none_more x len k before address length absent n there holds low = by_test (nat_eq n.len len) refl
    where
      by_test : (b : Bool) → nat_eq n.len len ≡ b → ⊥
      by_test true e =
          let same : n ≡ k = one_around n k x len holds (same_numbers n.len len e) address length in
          let wrong : true ≡ false = sym there ∙ ap (λ (m : Net). set.contains members (member.Net m)) same ∙ absent in
          cc
      by_test false e = before n there holds (omega (arith, unequal n.len len e))

  module _ (end : End) (a : Packet) where
    abbrev holds_for : Bool
    holds_for = list_any (member_holds end a) (set.items members)

    pub net_found : (x len : ℕ) (k : Net) → x ≡ address_at end a → k.addr.0 ≡ net_address x len → k.len ≡ len → set.contains members (member.Net k) ≡ true → true ≡ holds_for
    net_found x len k is address length there =
        let around : k.addr.0 ≡ net_address (address_at end a) k.len = address ∙ (λ i. net_address (is i) (sym length i)) in
        sym (any_from_item member_total exact_member (member_holds end a) members (member.Net k) (around_contains k (address_at end a) around) there)

    pub no_net_found : (x : ℕ) → x ≡ address_at end a → AreOf Nets → NoneBelow x 33 → false ≡ holds_for
    no_net_found x is kinds none = by_test holds_for refl
      where
        no_member : (m : Member) → member_holds end a m ≡ true → set.contains members m ≡ true → ⊥
        no_member (member.Net n) holds there = let short = n.short in none n there (ap (in_net n) is ∙ holds) (omega arith)
        no_member (member.PortAt address proto number) holds there = let wrong : false ≡ true = kinds (member.PortAt address proto number) there in cc

        by_test : (b : Bool) → holds_for ≡ b → false ≡ b
        by_test false e = refl
        by_test true e = let found = any_item member_total exact_member (member_holds end a) members e in absurd (no_member found.0 found.1.0 found.1.1)

    -- a member is the port of this address, protocol and number
    one_port : (m : Member) (b : Ipv4) (number : ℕ) → b.0 ≡ address_at end a → number ≡ port_at end a → is_of Ports m ≡ true → member_holds end a m ≡ true → m ≡ member.PortAt b a.proto number
    one_port (member.Net n) b number address port kind holds = cc
    one_port (member.PortAt c proto other) b number address port kind holds =
        let first = both_pass (nat_eq (address_at end a) c.0) (nat_eq a.proto.0 proto.0 && nat_eq (port_at end a) other) holds in
        let second = both_pass (nat_eq a.proto.0 proto.0) (nat_eq (port_at end a) other) first.1 in
        let at : c.0 ≡ b.0 = sym (same_numbers (address_at end a) c.0 first.0) ∙ sym address in
        let of : proto.0 ≡ a.proto.0 = sym (same_numbers a.proto.0 proto.0 second.0) in
        let to : other ≡ number = sym (same_numbers (port_at end a) other second.1) ∙ sym port in
        λ i. member.PortAt (record { 0 = at i }) (record { 0 = of i }) (to i)

    pub port_found : (b : Ipv4) (number : ℕ) → b.0 ≡ address_at end a → number ≡ port_at end a → AreOf Ports → set.contains members (member.PortAt b a.proto number) ≡ holds_for
    port_found b number address port kinds = same_truth (set.contains members (member.PortAt b a.proto number)) holds_for
        (λ there. any_from_item member_total exact_member (member_holds end a) members (member.PortAt b a.proto number) itself there)
        (λ some.
        let found = any_item member_total exact_member (member_holds end a) members some in
        let same : found.0 ≡ member.PortAt b a.proto number = one_port found.0 b number address port (kinds found.0 found.1.1) found.1.0 in
        ap (set.contains members) (sym same) ∙ found.1.1)
      where
        itself : (nat_eq (address_at end a) b.0 && (nat_eq a.proto.0 a.proto.0 && nat_eq (port_at end a) number)) ≡ true
        itself = λ i. eq-eqb (address_at end a) b.0 (sym address) i && (eq-eqb a.proto.0 a.proto.0 refl i && eq-eqb (port_at end a) number (sym port) i)

-- the members of a set by its name
module _ (sets : Sets) (name : List ℕ) (members : Members) (found : Some members ≡ maps.get sets name) where
  pub kinds_of : AreOfKinds sets → (k : SetKind) → kind_of name ≡ k → AreOf members k
  kinds_of kinds k is m there = ap (λ (j : SetKind). is_of j m) (sym is) ∙ kinds name members (sym found) m there
