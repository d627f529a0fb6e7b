-- Some rule that stands for another is met among the records where the other is met as it is written.
use Rattle.std.proofs.Common.{◌≡◌, ℕ, Bool, true, false, not, ◌&&◌, ◌||◌, List, [], ◌∷◌, Option, Some, None, refl, sym, ap, ◌∙◌, subst}
use Rattle.std.specs.Prelude.{nat_eq, if◌then◌else◌}
use Rattle.std.specs.List.{list_any, list_all, AllByRecursion}
use Rattle.std.specs.FinMap as maps
use Rattle.fx_base.specs.Same.{same_numbers}
use Rattle.fx_base.specs.declared.net.Proto.{Proto}
use Rattle.fx_base.proofs.Found.{each, entries_found}
use Rattle.fx_model.specs.Criteria.{has_ports, proto_is, proto_is_not, icmp_is, icmp_is_not}
use Rattle.fx_model.specs.declared.chain.End.TheVariants.{Source, Dest}
use Rattle.fx_model.specs.declared.ids.ItemKey.{ItemKey}
use Rattle.fx_model.specs.declared.packet.Packet.{Packet}
use Rattle.fx_model.specs.declared.resources.Resources.{Resources}
use Rattle.fx_model.specs.declared.rules.Rule.{Rule}
use Rattle.fx_model.specs.declared.rules.Side.{Side}
use Rattle.fx_model.specs.Directions as direction
use Rattle.fx_model.specs.Policy.{selects_address, named_port_holds, side_matches, rule_matches}
use Rattle.fx_model.proofs.Orders.{item_total}
use Rattle.fx_fields.specs.declared.names.NamespacedName.{NamespacedName}
use Rattle.fx_fields.specs.declared.policy_fields.PolicyType.{PolicyType}
use Rattle.fx_fields.specs.declared.policy_fields.PolicyType.TheVariants.{Ingress, Egress}
use Rattle.fx_fields.proofs.Readings.{first_of, second_of}
use Rattle.fx_services.specs.declared.slice_fields.SlicePort.{SlicePort}
use Rattle.fx_services.specs.declared.slices.Slice.{Slice}
use Rattle.fx_services.specs.Marks.{star}
use Rattle.fx_services.specs.Lowering.{WrittenRule, plain_side, plain_rule, of_service, from_service, to_addresses, service_ports, to_ports, never_met, tcp, udp, sctp, for_protocols, rules_for, lowered_rule}
use Rattle.fx_services.specs.Lowerable.{is_lowerable_side, is_lowerable_rule, is_service, asks_nothing, service_side, may_name, is_lowerable}
use Rattle.fx_services.specs.Written.{Written}
use Rattle.fx_services.specs.WrittenVerdict.{is_of, has_address, is_port, has_port, service_holds, written_matches}
use Rattle.fx_services.specs.Standing.{StandsFor, IsSound}
use Rattle.fx_service_laws.proofs.Items.{selects-service, port-service, slice-protocols}
use Rattle.fx_service_laws.proofs.Sides.{side-same, addresses-asked, ports-asked}

-- ---- tests

-- the direction of a rule's packets, in the words of policies
abbrev pub type_of : direction.Direction → PolicyType
type_of direction.Ingress = Ingress
type_of direction.Egress = Egress

-- some of these rules is met
abbrev pub is_met : Resources → Packet → List Rule → Bool
is_met R a rs = list_any (λ q. rule_matches R q a) rs

unmoved_or : (b : Bool) → (b || false) ≡ b
unmoved_or true = refl
unmoved_or false = refl

unmoved_and : (b : Bool) → b ≡ (b && true)
unmoved_and true = refl
unmoved_and false = refl

either_true : (a b : Bool) → a ≡ true → (a || b) ≡ true
either_true true b h = refl
either_true false b h = cc

or_true : (a b : Bool) → b ≡ true → (a || b) ≡ true
or_true true b h = refl
or_true false b h = h

any-implied : {A : Type 0} (p q : A → Bool) → ((x : A) → p x ≡ true → q x ≡ true) → (xs : List A) → list_any p xs ≡ true → list_any q xs ≡ true
any-implied p q f [] e = e
any-implied p q f (x ∷ xs) e =
    elim (p x) as (λ b. p x ≡ b → (b || list_any p xs) ≡ true → (q x || list_any q xs) ≡ true) [
      | true ↦ λ h g. either_true (q x) (list_any q xs) (f x h)
      | false ↦ λ h g. or_true (q x) (list_any q xs) (any-implied p q f xs g)
    ] refl e

-- what an element that passes tells of all
any-tells : {A : Type 0} (p : A → Bool) (fact : Bool) (xs : List A) → AllByRecursion (λ x. p x ≡ true → fact ≡ true) xs → list_any p xs ≡ true → fact ≡ true
any-tells p fact [] h e = cc
any-tells p fact (x ∷ xs) h e =
    elim (p x) as (λ b. p x ≡ b → (b || list_any p xs) ≡ true → fact ≡ true) [
      | true ↦ λ t g. h.0 t
      | false ↦ λ t g. any-tells p fact xs h.1 g
    ] refl e

-- one of these numbers, which has a port, is of a protocol that has ports
port-protocol : (proto y : ℕ) (ports : List SlicePort) → list_all (λ q. has_ports q.proto.0) ports ≡ true → list_any (is_port proto y) ports ≡ true → has_ports proto ≡ true
port-protocol proto y [] all_have e = cc
port-protocol proto y (p ∷ ps) all_have e =
    elim (is_port proto y p) as (λ b. is_port proto y p ≡ b → (b || list_any (is_port proto y) ps) ≡ true → has_ports proto ≡ true) [
      | true ↦ λ t g.
          let same : p.proto.0 ≡ proto = same_numbers p.proto.0 proto (first_of (nat_eq p.proto.0 proto) (nat_eq y p.number) t) in
          subst (λ n. has_ports n ≡ true) same (first_of (has_ports p.proto.0) (list_all (λ q. has_ports q.proto.0) ps) all_have)
      | false ↦ λ t g. port-protocol proto y ps (second_of (has_ports p.proto.0) (list_all (λ q. has_ports q.proto.0) ps) all_have) g
    ] refl e

-- what is asked of the source comes last
source-last : (m p i s d h : Bool) → (m && (p && (i && ((s && h) && d)))) ≡ ((m && (p && (i && (s && d)))) && h)
source-last false p i s d h = refl
source-last true false i s d h = refl
source-last true true false s d h = refl
source-last true true true false d h = refl
source-last true true true true true true = refl
source-last true true true true true false = refl
source-last true true true true false true = refl
source-last true true true true false false = refl

-- and so does what is asked of the destination
destination-last : (m p i s d h : Bool) → (m && (p && (i && (s && (d && h))))) ≡ ((m && (p && (i && (s && d)))) && h)
destination-last false p i s d h = refl
destination-last true false i s d h = refl
destination-last true true false s d h = refl
destination-last true true true false d h = refl
destination-last true true true true d h = refl

-- one rule for each of three protocols is one without, where the protocol is one of the three
for-all : (m n i s d h t u c : Bool) → (h ≡ true → (t || (u || c)) ≡ true) → ((m && ((t && n) && (i && (s && (d && h))))) || ((m && ((u && n) && (i && (s && (d && h))))) || ((m && ((c && n) && (i && (s && (d && h))))) || false))) ≡ ((m && ((true && n) && (i && (s && d)))) && h)
for-all false n i s d h t u c one = refl
for-all true false i s d h true true true one = refl
for-all true false i s d h true true false one = refl
for-all true false i s d h true false true one = refl
for-all true false i s d h true false false one = refl
for-all true false i s d h false true true one = refl
for-all true false i s d h false true false one = refl
for-all true false i s d h false false true one = refl
for-all true false i s d h false false false one = refl
for-all true true i s d h t u c one = by i s d h one
  where
    empty : (t u c : Bool) → (((t && true) && false) || (((u && true) && false) || (((c && true) && false) || false))) ≡ false
    empty true true true = refl
    empty true true false = refl
    empty true false true = refl
    empty true false false = refl
    empty false true true = refl
    empty false true false = refl
    empty false false true = refl
    empty false false false = refl

    full : (t u c : Bool) → (t || (u || c)) ≡ true → (((t && true) && true) || (((u && true) && true) || (((c && true) && true) || false))) ≡ true
    full true u c e = refl
    full false true c e = refl
    full false false true e = refl
    full false false false e = cc

    by : (i s d g : Bool) → (g ≡ true → (t || (u || c)) ≡ true) → (((t && true) && (i && (s && (d && g)))) || (((u && true) && (i && (s && (d && g)))) || (((c && true) && (i && (s && (d && g)))) || false))) ≡ ((true && (i && (s && d))) && g)
    by false s d g f = empty t u c
    by true false d g f = empty t u c
    by true true false g f = empty t u c
    by true true true false f = empty t u c
    by true true true true f = full t u c (f refl)

-- ---- rules

module _ (W : Written) (R : Resources) (stands : StandsFor W R) (sound : IsSound W) (a : Packet) where
  module _ (r : Rule) (low : is_lowerable_rule r ≡ true) where
    source-low : is_lowerable_side r.source ≡ true
    source-low = first_of (is_lowerable_side r.source) (is_lowerable_side r.destination) low

    destination-low : is_lowerable_side r.destination ≡ true
    destination-low = second_of (is_lowerable_side r.source) (is_lowerable_side r.destination) low

    source_is : side_matches R Source (plain_side r.source) a ≡ side_matches W.plain Source r.source a
    source_is = side-same W R stands sound Source a r.source source-low

    destination_is : side_matches R Dest (plain_side r.destination) a ≡ side_matches W.plain Dest r.destination a
    destination_is = side-same W R stands sound Dest a r.destination destination-low

    abbrev messages : Bool
    messages = icmp_is r.icmp a && icmp_is_not r.not_icmp a

    abbrev others : Bool
    others = proto_is_not r.not_protocol a.proto.0

    abbrev source : Bool
    source = side_matches W.plain Source r.source a

    abbrev destination : Bool
    destination = side_matches W.plain Dest r.destination a

    plain-same : rule_matches R (plain_rule r) a ≡ rule_matches W.plain r a
    plain-same = (λ i. not r.never && ((proto_is r.protocol a.proto.0 && others) && (messages && (source_is i && destination_is i))))

    module _ (v : NamespacedName) (is : is_service v ≡ true) where
      -- ---- packets from a service

      abbrev from_addresses : Bool
      from_addresses = list_any (λ s. is_of v s.1 && has_address a.src.0 s.1) (maps.entries W.slices)

      from-same : asks_nothing r.source ≡ true → rule_matches R (from_service v r) a ≡ (rule_matches W.plain r a && from_addresses)
      from-same e =
          (λ i. not r.never && ((proto_is r.protocol a.proto.0 && others) && (messages && (addresses-asked W R stands sound Source a v r.source e i && destination_is i))))
          ∙ ((λ i. not r.never && ((proto_is r.protocol a.proto.0 && others) && (messages && ((source && selects-service W R stands sound v is a.src.0 i) && destination))))
          ∙ source-last (not r.never) (proto_is r.protocol a.proto.0 && others) messages source destination from_addresses)

      -- ---- packets to a service

      abbrev to_address : Bool
      to_address = list_any (λ s. is_of v s.1 && has_address a.dst.0 s.1) (maps.entries W.slices)

      abbrev to_port : Bool
      to_port = list_any (λ s. is_of v s.1 && (has_address a.dst.0 s.1 && has_port a.proto.0 a.dport s.1)) (maps.entries W.slices)

      abbrev named : Bool
      named = named_port_holds R (Some (of_service v)) star a.proto.0 a.dst.0 a.dport

      named-is : named ≡ to_port
      named-is = port-service W R stands sound v is a.proto.0 a.dst.0 a.dport

      addressed : named ≡ true → selects_address R (of_service v) a.dst.0 ≡ true
      addressed e =
          selects-service W R stands sound v is a.dst.0
          ∙ any-implied (λ s. is_of v s.1 && (has_address a.dst.0 s.1 && has_port a.proto.0 a.dport s.1)) (λ s. is_of v s.1 && has_address a.dst.0 s.1) (λ s. shorter (is_of v s.1) (has_address a.dst.0 s.1) (has_port a.proto.0 a.dport s.1)) (maps.entries W.slices) (sym named-is ∙ e)
        where
          shorter : (b c d : Bool) → (b && (c && d)) ≡ true → (b && c) ≡ true
          shorter true true d h = refl
          shorter true false d h = h
          shorter false c d h = h

      -- where a slice has the port, its protocol is one that has ports
      ported : to_port ≡ true → has_ports a.proto.0 ≡ true
      ported e =
          any-tells (λ s. is_of v s.1 && (has_address a.dst.0 s.1 && has_port a.proto.0 a.dport s.1)) (has_ports a.proto.0) (maps.entries W.slices)
          (each (λ s. maps.get W.slices s.0 ≡ Some s.1) (λ s. (is_of v s.1 && (has_address a.dst.0 s.1 && has_port a.proto.0 a.dport s.1)) ≡ true → has_ports a.proto.0 ≡ true) of_slice (maps.entries W.slices) (entries_found item_total W.slices)) e
        where
          of_slice : (s : ItemKey × Slice) → maps.get W.slices s.0 ≡ Some s.1 → (is_of v s.1 && (has_address a.dst.0 s.1 && has_port a.proto.0 a.dport s.1)) ≡ true → has_ports a.proto.0 ≡ true
          of_slice s there h =
              port-protocol a.proto.0 a.dport s.1.ports (slice-protocols W R stands sound s there)
              (second_of (has_address a.dst.0 s.1) (has_port a.proto.0 a.dport s.1) (second_of (is_of v s.1) (has_address a.dst.0 s.1 && has_port a.proto.0 a.dport s.1) h))

      module _ (e : asks_nothing r.destination ≡ true) where
        abbrev asked_side : Side
        asked_side = record (record (plain_side r.destination) { selector = Some (of_service v) }) { ports = service_ports }

        asked : side_matches R Dest asked_side a ≡ (destination && to_port)
        asked = ports-asked W R stands sound Dest a v r.destination e addressed ∙ ap (λ b. destination && b) named-is

        -- one of the rules for this protocol
        one-for : (p : Proto) → rule_matches R (to_ports (to_addresses v r) p) a ≡ (not r.never && ((nat_eq a.proto.0 p.0 && others) && (messages && (source && (destination && to_port)))))
        one-for p = (λ i. not r.never && ((nat_eq a.proto.0 p.0 && others) && (messages && (source_is i && asked i))))

        for-same : (o : Option Proto) → r.protocol ≡ o → is_met R a (for_protocols (to_addresses v r) o) ≡ (rule_matches W.plain r a && to_port)
        for-same None e_none =
            (λ i. one-for tcp i || (one-for udp i || (one-for sctp i || false)))
            ∙ (for-all (not r.never) others messages source destination to_port (nat_eq a.proto.0 6) (nat_eq a.proto.0 17) (nat_eq a.proto.0 132) ported
            ∙ (λ i. (not r.never && ((proto_is (sym e_none i) a.proto.0 && others) && (messages && (source && destination)))) && to_port))
        for-same (Some p) e_some = by (has_ports p.0) refl
          where
            -- a rule for a protocol without ports isn't met, and no slice has a port of one
            none-met : (t n i s d h : Bool) → (h ≡ true → t ≡ true → false ≡ true) → (m : Bool) → false ≡ ((m && ((t && n) && (i && (s && d)))) && h)
            none-met t n i s d true wrong m = by_protocol t wrong m
              where
                by_protocol : (b : Bool) → (true ≡ true → b ≡ true → false ≡ true) → (m : Bool) → false ≡ ((m && ((b && n) && (i && (s && d)))) && true)
                by_protocol true f m = (let contrary : false ≡ true = f refl refl in cc)
                by_protocol false f true = refl
                by_protocol false f false = refl
            none-met t n i s d false wrong m = by_all (m && ((t && n) && (i && (s && d))))
              where
                by_all : (b : Bool) → false ≡ (b && false)
                by_all true = refl
                by_all false = refl

            with_protocol : (not r.never && ((nat_eq a.proto.0 p.0 && others) && (messages && (source && destination)))) ≡ rule_matches W.plain r a
            with_protocol = (λ i. not r.never && ((proto_is (sym e_some i) a.proto.0 && others) && (messages && (source && destination))))

            contrary : has_ports p.0 ≡ false → to_port ≡ true → nat_eq a.proto.0 p.0 ≡ true → false ≡ true
            contrary none there same = sym none ∙ (ap has_ports (sym (same_numbers a.proto.0 p.0 same)) ∙ ported there)

            by : (b : Bool) → has_ports p.0 ≡ b → is_met R a ((if b then to_ports (to_addresses v r) p else never_met (to_addresses v r)) ∷ []) ≡ (rule_matches W.plain r a && to_port)
            by true h =
                ap (λ b. b || false) (one-for p)
                ∙ (unmoved_or (not r.never && ((nat_eq a.proto.0 p.0 && others) && (messages && (source && (destination && to_port)))))
                ∙ (destination-last (not r.never) (nat_eq a.proto.0 p.0 && others) messages source destination to_port
                ∙ ap (λ b. b && to_port) with_protocol))
            by false h =
                none-met (nat_eq a.proto.0 p.0) others messages source destination to_port (contrary h) (not r.never) ∙ ap (λ b. b && to_port) with_protocol

  -- ---- what stands for a rule

  pub rule-same : (d : direction.Direction) (w : WrittenRule) → is_lowerable (type_of d) w ≡ true → is_met R a (lowered_rule (type_of d) w) ≡ written_matches W d w a
  rule-same d w low = by d w.service (second_of (is_lowerable_rule w.plain) (may_name (type_of d) w.plain w.service) low)
    where
      rule_low : is_lowerable_rule w.plain ≡ true
      rule_low = first_of (is_lowerable_rule w.plain) (may_name (type_of d) w.plain w.service) low

      by : (g : direction.Direction) (o : Option NamespacedName) → may_name (type_of g) w.plain o ≡ true → is_met R a (rules_for (type_of g) w.plain o) ≡ (rule_matches W.plain w.plain a && service_holds W g o a)
      by g None h = unmoved_or (rule_matches R (plain_rule w.plain) a) ∙ (plain-same w.plain rule_low ∙ unmoved_and (rule_matches W.plain w.plain a))
      by direction.Ingress (Some v) h =
          unmoved_or (rule_matches R (from_service v w.plain) a)
          ∙ from-same w.plain rule_low v (first_of (is_service v) (asks_nothing (service_side Ingress w.plain)) h) (second_of (is_service v) (asks_nothing (service_side Ingress w.plain)) h)
      by direction.Egress (Some v) h =
          for-same w.plain rule_low v (first_of (is_service v) (asks_nothing (service_side Egress w.plain)) h) (second_of (is_service v) (asks_nothing (service_side Egress w.plain)) h) w.plain.protocol refl
