-- The tests of records tell all of them apart, and none from itself.
use Rattle.std.proofs.Common.{◌≡◌, ℕ, Bool, true, false, ◌&&◌, List, [], ◌∷◌, Option, Some, None, refl, ap, ◌∙◌}
use Rattle.std.specs.Prelude.{ℤ, nat_eq}
use Rattle.std.specs.Cmp.{int_eq_equiv, signed_Decides}
use Rattle.std.specs.Cmp.Lexicographic.{pointwise, nat_list_eq_equiv}
use Rattle.std.specs.FinMap as map
use Rattle.std.specs.Ordering.{int_eq}
use Rattle.std.proofs.lemmas.Cmp.{nat_eq_equiv}
use mathlib.Core.Bool.{beq}
use Rattle.fx_base.proofs.Cases.{both_true}
use Rattle.fx_base.specs.Same.{same_numbers, same_bytes, same_list, same_finite, same_truths, same_option, both_pass}
use Rattle.fx_base.specs.contracts.net.Ipv4PartialEq.TheImpl as address
use Rattle.fx_base.specs.contracts.net.NetEq.TheImpl.Laws as net_laws
use Rattle.fx_base.specs.contracts.net.NetPartialEq.TheImpl as net
use Rattle.fx_base.specs.declared.net.Ipv4.{Ipv4}
use Rattle.fx_selector.specs.SameTree.{same_tree_equiv, one_tree}
use Rattle.fx_selector.specs.Truth.{LabelMap}
use Rattle.fx_model.specs.SameRules.{same_cidr, same_endpoint_port, same_rule}
use Rattle.fx_model.specs.contracts.resources.EndpointPortEq.TheImpl.Laws as port_laws
use Rattle.fx_model.specs.contracts.resources.EndpointPortPartialEq.TheImpl as port
use Rattle.fx_model.specs.contracts.rules.RuleEq.TheImpl.Laws as rule_laws
use Rattle.fx_model.specs.contracts.rules.RulePartialEq.TheImpl as rule
use Rattle.fx_model.specs.declared.policy.NetSet.{NetSet}
use Rattle.fx_model.specs.declared.policy.Policy.{Policy}
use Rattle.fx_model.specs.declared.policy.Tier.{Tier}
use Rattle.fx_model.specs.declared.resources.Endpoint.{Endpoint}
use Rattle.fx_model.specs.declared.resources.Item.{Item}
use Rattle.fx_model.specs.declared.resources.Item.TheVariants as item
use Rattle.fx_model.specs.declared.resources.Profile.{Profile}
use Rattle.fx_model.specs.declared.rules.Rule.{Rule}
use Rattle.fx_store.specs.Same.{same_labels, same_order, same_endpoint, same_profile, same_tier, same_policy, same_net_set, same_item, is_record}

-- ---- parts of records

one_labels : (m n : LabelMap) → same_labels m n ≡ true → m ≡ n
one_labels m n e = same_finite (pointwise nat_eq) (pointwise nat_eq) same_bytes same_bytes m n e

one_order : (x y : Option ℤ) → same_order x y ≡ true → x ≡ y
one_order x y e = same_option int_eq (λ a b h. (signed_Decides a b).0 h) x y e

one_address : (x y : Ipv4) → address.eq-value.it x y ≡ true → x ≡ y
one_address x y e = λ i. record { 0 = same_numbers x.0 y.0 e i }

own_list : {A : Type 0} (E : A → A → Bool) → ((a : A) → E a a ≡ true) → (xs : List A) → pointwise E xs xs ≡ true
own_list E own [] = refl
own_list E own (x ∷ xs) = both_true (E x x) (pointwise E xs xs) (own x) (own_list E own xs)

own_label : (p : List ℕ × List ℕ) → (pointwise nat_eq p.0 p.0 && pointwise nat_eq p.1 p.1) ≡ true
own_label p = both_true _ _ (nat_list_eq_equiv.refl p.0) (nat_list_eq_equiv.refl p.1)

own_labels : (m : LabelMap) → same_labels m m ≡ true
own_labels m = own_list (λ (p q : List ℕ × List ℕ). pointwise nat_eq p.0 q.0 && pointwise nat_eq p.1 q.1) own_label (map.entries m)

own_order : (x : Option ℤ) → same_order x x ≡ true
own_order None = refl
own_order (Some n) = int_eq_equiv.refl n

own_address : (x : Ipv4) → address.eq-value.it x x ≡ true
own_address x = nat_eq_equiv.refl x.0

own_truth : (b : Bool) → beq b b ≡ true
own_truth true = refl
own_truth false = refl

-- ---- each kind of records

one_endpoint : (a b : Endpoint) → same_endpoint a b ≡ true → a ≡ b
one_endpoint a b e =
    let p = both_pass _ _ e in
    let q = both_pass _ _ p.0 in
    let r = both_pass _ _ q.0 in
    let s = both_pass _ _ r.0 in
    let t = both_pass _ _ s.0 in
    λ i. record {
      node = same_bytes a.node b.node t.0 i;
      iface = same_bytes a.iface b.iface t.1 i;
      labels = one_labels a.labels b.labels s.1 i;
      addresses = same_list _ one_address a.addresses b.addresses r.1 i;
      profiles = same_list _ same_bytes a.profiles b.profiles q.1 i;
      ports = same_list _ same_endpoint_port a.ports b.ports p.1 i;
    }

own_endpoint : (a : Endpoint) → same_endpoint a a ≡ true
own_endpoint a = λ i.
    ((((nat_list_eq_equiv.refl a.node i && nat_list_eq_equiv.refl a.iface i) && own_labels a.labels i)
    && own_list address.eq-value.it own_address a.addresses i) && own_list (pointwise nat_eq) nat_list_eq_equiv.refl a.profiles i)
    && own_list port.eq-value.it port_laws.laws-law.refl a.ports i

one_profile : (a b : Profile) → same_profile a b ≡ true → a ≡ b
one_profile a b e =
    let p = both_pass _ _ e in
    let q = both_pass _ _ p.0 in
    λ i. record {
      labels = one_labels a.labels b.labels q.0 i;
      ingress = same_list _ same_rule a.ingress b.ingress q.1 i;
      egress = same_list _ same_rule a.egress b.egress p.1 i;
    }

own_rules : (rs : List Rule) → pointwise rule.eq-value.it rs rs ≡ true
own_rules rs = own_list rule.eq-value.it rule_laws.laws-law.refl rs

own_profile : (a : Profile) → same_profile a a ≡ true
own_profile a = λ i. (own_labels a.labels i && own_rules a.ingress i) && own_rules a.egress i

one_tier : (a b : Tier) → same_tier a b ≡ true → a ≡ b
one_tier a b e =
    let p = both_pass _ _ e in
    λ i. record { order = one_order a.order b.order p.0 i; pass_at_end = same_truths a.pass_at_end b.pass_at_end p.1 i }

own_tier : (a : Tier) → same_tier a a ≡ true
own_tier a = λ i. own_order a.order i && own_truth a.pass_at_end i

one_policy : (a b : Policy) → same_policy a b ≡ true → a ≡ b
one_policy a b e =
    let p = both_pass _ _ e in
    let q = both_pass _ _ p.0 in
    let r = both_pass _ _ q.0 in
    let s = both_pass _ _ r.0 in
    let t = both_pass _ _ s.0 in
    let u = both_pass _ _ t.0 in
    λ i. record {
      tier = same_bytes a.tier b.tier u.0 i;
      order = one_order a.order b.order u.1 i;
      selector = one_tree a.selector b.selector r.1 i;
      on_ingress = same_truths a.on_ingress b.on_ingress t.1 i;
      on_egress = same_truths a.on_egress b.on_egress s.1 i;
      ingress = same_list _ same_rule a.ingress b.ingress q.1 i;
      egress = same_list _ same_rule a.egress b.egress p.1 i;
    }

own_policy : (a : Policy) → same_policy a a ≡ true
own_policy a = λ i.
    (((((nat_list_eq_equiv.refl a.tier i && own_order a.order i) && own_truth a.on_ingress i) && own_truth a.on_egress i)
    && same_tree_equiv.refl a.selector i) && own_rules a.ingress i)
    && own_rules a.egress i

one_net_set : (a b : NetSet) → same_net_set a b ≡ true → a ≡ b
one_net_set a b e =
    let p = both_pass _ _ e in
    λ i. record { labels = one_labels a.labels b.labels p.0 i; nets = same_list _ same_cidr a.nets b.nets p.1 i }

own_net_set : (a : NetSet) → same_net_set a a ≡ true
own_net_set a = λ i. own_labels a.labels i && own_list net.eq-value.it net_laws.laws-law.refl a.nets i

-- ---- records of any kind

one_item : (x y : Item) → same_item x y ≡ true → x ≡ y
one_item (item.Endpoint a) (item.Endpoint b) e = ap item.Endpoint (one_endpoint a b e)
one_item (item.Profile a) (item.Profile b) e = ap item.Profile (one_profile a b e)
one_item (item.Tier a) (item.Tier b) e = ap item.Tier (one_tier a b e)
one_item (item.Policy a) (item.Policy b) e = ap item.Policy (one_policy a b e)
one_item (item.NetSet a) (item.NetSet b) e = ap item.NetSet (one_net_set a b e)
one_item x y e = cc

own_item : (x : Item) → same_item x x ≡ true
own_item (item.Endpoint a) = own_endpoint a
own_item (item.Profile a) = own_profile a
own_item (item.Tier a) = own_tier a
own_item (item.Policy a) = own_policy a
own_item (item.NetSet a) = own_net_set a

pub one_record : (o : Option Item) (x : Item) → is_record o x ≡ true → o ≡ Some x
one_record None x e = cc
one_record (Some y) x e = ap Some (one_item y x e)

pub own_record : (o : Option Item) (x : Item) → o ≡ Some x → is_record o x ≡ true
own_record o x is = ap (λ p. is_record p x) is ∙ own_item x
