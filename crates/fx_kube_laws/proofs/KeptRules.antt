-- Some rule that is made of one of Kubernetes matches where that one allows.
use Rattle.std.proofs.Common.{◌≡◌, ℕ, Bool, true, false, not, ◌&&◌, ◌||◌, List, [], ◌∷◌, ◌++◌, Option, Some, None, refl, sym, ap, ◌∙◌}
use Rattle.std.specs.Prelude.{nat_eq, if◌then◌else◌}
use Rattle.std.specs.List.{list_any, list_all}
use Rattle.std.proofs.lemmas.List.Folds.{list_any-append}
use Rattle.fx_base.specs.Given.{is_given}
use Rattle.fx_base.specs.Same.{same_numbers}
use Rattle.fx_base.specs.declared.net.NetText.{NetText}
use Rattle.fx_base.specs.declared.net.NetText.TheVariants.{V4, V6}
use Rattle.fx_base.specs.declared.net.Proto.{Proto}
use Rattle.fx_selector.specs.Tree.{Tree}
use Rattle.fx_model.specs.declared.chain.End.TheVariants.{Dest}
use Rattle.fx_model.specs.declared.packet.Packet.{Packet}
use Rattle.fx_model.specs.declared.resources.Resources.{Resources}
use Rattle.fx_model.specs.declared.rules.PortSpec.{PortSpec}
use Rattle.fx_model.specs.declared.rules.PortSpec.TheVariants.{Number, Named}
use Rattle.fx_model.specs.declared.rules.Rule.{Rule}
use Rattle.fx_model.specs.Criteria.{has_ports, proto_is, in_net, in_range, lies_in}
use Rattle.fx_model.specs.Directions.{Direction}
use Rattle.fx_model.specs.Policy.{some_port, some_port_given, rule_matches}
use Rattle.fx_model.specs.Policy as policy
use Rattle.fx_fields.specs.declared.policy_fields.PolicyType.{PolicyType}
use Rattle.fx_fields.specs.declared.policy_fields.PolicyType.TheVariants as listed
use Rattle.fx_k8s.specs.declared.entries.PortEntry.{PortEntry}
use Rattle.fx_k8s.specs.declared.entries.Protocol.{Protocol}
use Rattle.fx_k8s.specs.declared.entries.Protocol.TheVariants.{Tcp, Udp, Sctp}
use Rattle.fx_k8s.specs.declared.peers.Peer.{Peer}
use Rattle.fx_k8s.specs.declared.peers.Peer.TheVariants.{Block, Pods}
use Rattle.fx_k8s.specs.Clusters.{IsConverted, IsPlain, is_plain_peer}
use Rattle.fx_k8s.specs.Conversion.{asked_side, allow_rule, is_of, ports_from, ports_of, proto_of, protocol_rules, peer_rules, rules_of_peers}
use Rattle.fx_k8s.specs.Entries.{number_of}
use Rattle.fx_k8s.specs.KubeVerdict.{Cluster, peer_holds, other_address, port_holds, entry_holds, some_entry, some_peer}
use Rattle.fx_kube_laws.proofs.Chain.{direction_of, RulesAreKept}
use Rattle.fx_kube_laws.proofs.Lists.{unmoved_or, unmoved_and, nothing_and, any-flat_map, any-same, each, tested}
use Rattle.fx_kube_laws.proofs.KeptAddresses.{addresses_are_the_same, ports_of_peers_are_the_same, ports_of_all_are_the_same}

-- ---- tests

open_ends : (p q : Bool) → ((p && true) && (q && true)) ≡ (p && q)
open_ends true q = unmoved_and q
open_ends false q = refl

selected_source : (p s q : Bool) → ((p && true) && (((s && true) && true) && (q && true))) ≡ (p && (s && q))
selected_source false s q = refl
selected_source true true q = unmoved_and q
selected_source true false q = refl

selected_dest : (p s q : Bool) → ((p && true) && ((s && true) && (q && true))) ≡ (p && (s && q))
selected_dest false s q = refl
selected_dest true true q = unmoved_and q
selected_dest true false q = refl

block_source : (p n e q : Bool) → ((p && true) && ((((n || false) && not e) && true) && (q && true))) ≡ (p && ((n && not e) && q))
block_source false n e q = refl
block_source true true true q = refl
block_source true true false q = unmoved_and q
block_source true false e q = refl

block_dest : (p n e q : Bool) → ((p && true) && (((n || false) && not e) && (q && true))) ≡ (p && ((n && not e) && q))
block_dest false n e q = refl
block_dest true true true q = refl
block_dest true true false q = unmoved_and q
block_dest true false e q = refl

later : (a : Bool) → (a || true) ≡ true
later true = refl
later false = refl

grouped : (a b c : Bool) → ((a || (b || false)) || c) ≡ (a || (b || c))
grouped true b c = refl
grouped false true c = refl
grouped false false c = refl

spread : (p x y z : Bool) → ((p && x) || ((p && y) || (p && z))) ≡ (p && (x || (y || z)))
spread true x y z = refl
spread false x y z = refl

three : (x y z u v w : Bool) → ((x || u) || ((y || v) || (z || w))) ≡ ((x || (y || z)) || (u || (v || w)))
three true y z u v w = refl
three false y z true v w = later-first y z v w
  where
    later-first : (y z v w : Bool) → true ≡ ((y || z) || true)
    later-first y z v w = sym (later (y || z))
three false true z false v w = refl
three false false true false true w = refl
three false false true false false w = refl
three false false false false v w = refl

module _ (K : Cluster) (R : Resources) (ns : List ℕ) (a : Packet) (converted : IsConverted K R) (plain : IsPlain K) where
  abbrev IsGivenPlainPeer : Option Peer → Type 0
  IsGivenPlainPeer None = Unit {0}
  IsGivenPlainPeer (Some p) = is_plain_peer p ≡ true

  -- the other end is one of the peer, or any without one
  abbrev peer_given : Direction → Option Peer → Bool
  peer_given d None = true
  peer_given d (Some p) = peer_holds K ns (other_address d a) p

  -- the selector that stands beside the ports
  abbrev beside : PolicyType → Option Peer → Option Tree
  beside listed.Ingress o = None
  beside listed.Egress o = (asked_side ns o).side.selector

  abbrev port_ok : PolicyType → Option Peer → List PortSpec → Bool
  port_ok t o ports = some_port_given R (beside t o) Dest ports a

  -- ---- one rule

  matches : (t : PolicyType) (o : Option Peer) → IsGivenPlainPeer o → (proto : Option Proto) (ports : List PortSpec) → rule_matches R (allow_rule t (asked_side ns o) proto ports) a ≡ (proto_is proto a.proto.0 && (peer_given (direction_of t) o && port_ok t o ports))
  matches listed.Ingress None h proto ports = open_ends (proto_is proto a.proto.0) (some_port_given R None Dest ports a)
  matches listed.Egress None h proto ports = open_ends (proto_is proto a.proto.0) (some_port_given R None Dest ports a)
  matches listed.Ingress (Some (Pods p)) h proto ports =
      selected_source (proto_is proto a.proto.0) _ (some_port_given R None Dest ports a)
      ∙ ap (λ s. proto_is proto a.proto.0 && (s && some_port_given R None Dest ports a)) (addresses_are_the_same K R ns p a.src.0 converted plain h)
  matches listed.Egress (Some (Pods p)) h proto ports =
      selected_dest (proto_is proto a.proto.0) _ (port_ok listed.Egress (Some (Pods p)) ports)
      ∙ ap (λ s. proto_is proto a.proto.0 && (s && port_ok listed.Egress (Some (Pods p)) ports)) (addresses_are_the_same K R ns p a.dst.0 converted plain h)
  matches listed.Ingress (Some (Block b)) h proto ports = by b.cidr refl
    where
      by : (c : NetText) → b.cidr ≡ c → rule_matches R (allow_rule listed.Ingress (asked_side ns (Some (Block (record b { cidr = c })))) proto ports) a ≡ (proto_is proto a.proto.0 && (peer_holds K ns a.src.0 (Block (record b { cidr = c })) && some_port_given R None Dest ports a))
      by (V4 n) e = block_source (proto_is proto a.proto.0) (in_net n a.src.0) (lies_in b.except a.src.0) (some_port_given R None Dest ports a)
      by V6 e = sym (nothing_and (proto_is proto a.proto.0))
  matches listed.Egress (Some (Block b)) h proto ports = by b.cidr refl
    where
      by : (c : NetText) → b.cidr ≡ c → rule_matches R (allow_rule listed.Egress (asked_side ns (Some (Block (record b { cidr = c })))) proto ports) a ≡ (proto_is proto a.proto.0 && (peer_holds K ns a.dst.0 (Block (record b { cidr = c })) && some_port_given R None Dest ports a))
      by (V4 n) e = block_dest (proto_is proto a.proto.0) (in_net n a.dst.0) (lies_in b.except a.dst.0) (some_port_given R None Dest ports a)
      by V6 e = sym (nothing_and (proto_is proto a.proto.0))

  -- ---- ports

  with_its_ports : (p : Protocol) → nat_eq a.proto.0 (number_of p) ≡ true → has_ports a.proto.0 ≡ true
  with_its_ports p e = ap has_ports (same_numbers a.proto.0 (number_of p) e) ∙ of p
    where
      of : (p : Protocol) → has_ports (number_of p) ≡ true
      of Tcp = refl
      of Udp = refl
      of Sctp = refl

  module _ (t : PolicyType) (o : Option Peer) (h : IsGivenPlainPeer o) where
    abbrev port_allows : Option PortSpec → Bool
    port_allows x = port_holds K ns (direction_of t) o a x

    named-same : (t : PolicyType) (o : Option Peer) → IsGivenPlainPeer o → (name : List ℕ) → policy.port_holds R (beside t o) Dest a (Named name) ≡ port_holds K ns (direction_of t) o a (Some (Named name))
    named-same listed.Ingress o g name = ports_of_all_are_the_same K R name a converted
    named-same listed.Egress None g name = ports_of_all_are_the_same K R name a converted
    named-same listed.Egress (Some (Block b)) g name = ports_of_all_are_the_same K R name a converted
    named-same listed.Egress (Some (Pods p)) g name = ports_of_peers_are_the_same K R ns p name a converted plain g

    module _ (p : Protocol) (its : nat_eq a.proto.0 (number_of p) ≡ true) where
      port-same : (x : PortSpec) → policy.port_holds R (beside t o) Dest a x ≡ port_allows (Some x)
      port-same (Number r) = ap (λ b. b && in_range r a.dport) (with_its_ports p its)
      port-same (Named name) = named-same t o h name

      abbrev allows : PortEntry → Bool
      allows e = is_of p e && port_allows e.port

      given-ports : (xs : List PortSpec) → is_given xs ≡ true → port_ok t o xs ≡ some_port R (beside t o) Dest xs a
      given-ports [] e = cc
      given-ports (x ∷ xs) e = refl

      push-given : (xs : List PortSpec) (x : PortSpec) → is_given (xs ++ x ∷ []) ≡ true
      push-given [] x = refl
      push-given (y ∷ ys) x = refl

      -- the ports of this protocol hold where one of its entries does
      ports-same : (xs : List PortSpec) (es : List PortEntry) → (is_given xs || list_any (is_of p) es) ≡ true → port_ok t o (ports_from p xs es) ≡ (some_port R (beside t o) Dest xs a || list_any allows es)
      ports-same xs [] g = given-ports xs (sym (unmoved_or (is_given xs)) ∙ g) ∙ sym (unmoved_or (some_port R (beside t o) Dest xs a))
      ports-same xs (e ∷ es) g = by (λ ys f. ports-same ys es f) (is_of p e) e.port g
        where
          by_port : ((ys : List PortSpec) → (is_given ys || list_any (is_of p) es) ≡ true → port_ok t o (ports_from p ys es) ≡ (some_port R (beside t o) Dest ys a || list_any allows es)) → (x : Option PortSpec) → port_ok t o (elim x [ None ↦ [] | Some y ↦ ports_from p (xs ++ y ∷ []) es ]) ≡ (some_port R (beside t o) Dest xs a || (port_allows x || list_any allows es))
          by_port rest None = sym (later (some_port R (beside t o) Dest xs a))
          by_port rest (Some y) =
              rest (xs ++ y ∷ []) (ap (λ b. b || list_any (is_of p) es) (push-given xs y))
              ∙ ap (λ b. b || list_any allows es) (list_any-append (policy.port_holds R (beside t o) Dest a) xs (y ∷ []))
              ∙ ap (λ b. (some_port R (beside t o) Dest xs a || (b || false)) || list_any allows es) (port-same y)
              ∙ grouped (some_port R (beside t o) Dest xs a) (port_allows (Some y)) (list_any allows es)

          by : ((ys : List PortSpec) → (is_given ys || list_any (is_of p) es) ≡ true → port_ok t o (ports_from p ys es) ≡ (some_port R (beside t o) Dest ys a || list_any allows es)) → (b : Bool) (x : Option PortSpec) → (is_given xs || (b || list_any (is_of p) es)) ≡ true → port_ok t o (elim b [ true ↦ elim x [ None ↦ [] | Some y ↦ ports_from p (xs ++ y ∷ []) es ] | false ↦ ports_from p xs es ]) ≡ (some_port R (beside t o) Dest xs a || ((b && port_allows x) || list_any allows es))
          by rest true x f = by_port rest x
          by rest false x f = rest xs f

      none-allows : (es : List PortEntry) → list_any (is_of p) es ≡ false → list_any allows es ≡ false
      none-allows [] e = refl
      none-allows (x ∷ es) e = by (is_of p x) e (none-allows es)
        where
          by : (b : Bool) → (b || list_any (is_of p) es) ≡ false → (list_any (is_of p) es ≡ false → list_any allows es ≡ false) → ((b && port_allows x.port) || list_any allows es) ≡ false
          by true f rest = cc
          by false f rest = rest f

    -- ---- the rules of a peer

    abbrev peer_ok : Bool
    peer_ok = peer_given (direction_of t) o

    abbrev its : Protocol → Bool
    its p = nat_eq a.proto.0 (number_of p)

    abbrev some_allows : Protocol → List PortEntry → Bool
    some_allows p es = list_any (λ e. is_of p e && port_allows e.port) es

    abbrev matched : List Rule → Bool
    matched rs = list_any (λ q. rule_matches R q a) rs

    protocol-same : (p : Protocol) (es : List PortEntry) → matched (protocol_rules t ns es o p) ≡ (peer_ok && (its p && some_allows p es))
    protocol-same p es = by (list_any (is_of p) es) refl (its p) refl
      where
        by : (any : Bool) → list_any (is_of p) es ≡ any → (m : Bool) → its p ≡ m → matched (if any then allow_rule t (asked_side ns o) (Some (proto_of p)) (ports_of p es) ∷ [] else []) ≡ (peer_ok && (m && some_allows p es))
        by true e true f =
            unmoved_or (rule_matches R (allow_rule t (asked_side ns o) (Some (proto_of p)) (ports_of p es)) a)
            ∙ matches t o h (Some (proto_of p)) (ports_of p es)
            ∙ (λ i. f i && (peer_ok && ports-same p f [] es e i))
        by true e false f =
            unmoved_or (rule_matches R (allow_rule t (asked_side ns o) (Some (proto_of p)) (ports_of p es)) a)
            ∙ matches t o h (Some (proto_of p)) (ports_of p es)
            ∙ ap (λ b. b && (peer_ok && port_ok t o (ports_of p es))) f
            ∙ sym (nothing_and peer_ok)
        by false e true f = sym (ap (λ b. peer_ok && b) (none-allows p f es e) ∙ nothing_and peer_ok)
        by false e false f = sym (nothing_and peer_ok)

    -- each entry is of one protocol
    of_one : (e : PortEntry) → ((its Tcp && (is_of Tcp e && port_allows e.port)) || ((its Udp && (is_of Udp e && port_allows e.port)) || (its Sctp && (is_of Sctp e && port_allows e.port)))) ≡ entry_holds K ns (direction_of t) o a e
    of_one e = by e.protocol
      where
        by : (q : Protocol) → ((its Tcp && (nat_eq (number_of q) 6 && port_allows e.port)) || ((its Udp && (nat_eq (number_of q) 17 && port_allows e.port)) || (its Sctp && (nat_eq (number_of q) 132 && port_allows e.port)))) ≡ (its q && port_allows e.port)
        by Tcp = (λ i. (its Tcp && port_allows e.port) || (nothing_and (its Udp) i || nothing_and (its Sctp) i)) ∙ unmoved_or (its Tcp && port_allows e.port)
        by Udp = (λ i. nothing_and (its Tcp) i || ((its Udp && port_allows e.port) || nothing_and (its Sctp) i)) ∙ unmoved_or (its Udp && port_allows e.port)
        by Sctp = (λ i. nothing_and (its Tcp) i || (nothing_and (its Udp) i || (its Sctp && port_allows e.port)))

    and_any : {A : Type 0} (m : Bool) (q : A → Bool) (xs : List A) → (m && list_any q xs) ≡ list_any (λ x. m && q x) xs
    and_any true q xs = refl
    and_any false q [] = refl
    and_any false q (x ∷ xs) = and_any false q xs

    entries-same : (es : List PortEntry) → ((its Tcp && some_allows Tcp es) || ((its Udp && some_allows Udp es) || (its Sctp && some_allows Sctp es))) ≡ list_any (entry_holds K ns (direction_of t) o a) es
    entries-same es =
        (λ i. and_any (its Tcp) (λ e. is_of Tcp e && port_allows e.port) es i || (and_any (its Udp) (λ e. is_of Udp e && port_allows e.port) es i || and_any (its Sctp) (λ e. is_of Sctp e && port_allows e.port) es i))
        ∙ merged es
      where
        merged : (es : List PortEntry) → (list_any (λ e. its Tcp && (is_of Tcp e && port_allows e.port)) es || (list_any (λ e. its Udp && (is_of Udp e && port_allows e.port)) es || list_any (λ e. its Sctp && (is_of Sctp e && port_allows e.port)) es)) ≡ list_any (entry_holds K ns (direction_of t) o a) es
        merged [] = refl
        merged (e ∷ es) =
            three (its Tcp && (is_of Tcp e && port_allows e.port)) (its Udp && (is_of Udp e && port_allows e.port)) (its Sctp && (is_of Sctp e && port_allows e.port)) _ _ _
            ∙ (λ i. of_one e i || merged es i)

    peer-same : (es : List PortEntry) → matched (peer_rules t ns es o) ≡ (peer_ok && some_entry K ns (direction_of t) o a es)
    peer-same [] = unmoved_or (rule_matches R (allow_rule t (asked_side ns o) None []) a) ∙ matches t o h None []
    peer-same (e ∷ es) =
        list_any-append (λ q. rule_matches R q a) (protocol_rules t ns (e ∷ es) o Tcp) (protocol_rules t ns (e ∷ es) o Udp ++ protocol_rules t ns (e ∷ es) o Sctp)
        ∙ ap (λ b. matched (protocol_rules t ns (e ∷ es) o Tcp) || b) (list_any-append (λ q. rule_matches R q a) (protocol_rules t ns (e ∷ es) o Udp) (protocol_rules t ns (e ∷ es) o Sctp))
        ∙ (λ i. protocol-same Tcp (e ∷ es) i || (protocol-same Udp (e ∷ es) i || protocol-same Sctp (e ∷ es) i))
        ∙ spread peer_ok (its Tcp && some_allows Tcp (e ∷ es)) (its Udp && some_allows Udp (e ∷ es)) (its Sctp && some_allows Sctp (e ∷ es))
        ∙ ap (λ b. peer_ok && b) (entries-same (e ∷ es))

  -- ---- all peers

  peers-same : (t : PolicyType) (es : List PortEntry) (ps : List Peer) → list_all is_plain_peer ps ≡ true → list_any (λ q. rule_matches R q a) (rules_of_peers t ns es ps) ≡ some_peer K ns (direction_of t) a es ps
  peers-same t es [] h = peer-same t None tt es
  peers-same t es (p ∷ ps) h =
      any-flat_map (λ q. rule_matches R q a) (λ q. peer_rules t ns es (Some q)) (p ∷ ps)
      ∙ any-same (λ q. list_any (λ r. rule_matches R r a) (peer_rules t ns es (Some q))) (λ q. peer_holds K ns (other_address (direction_of t) a) q && some_entry K ns (direction_of t) (Some q) a es) (p ∷ ps)
      (each (λ q. is_plain_peer q ≡ true) (λ q. list_any (λ r. rule_matches R r a) (peer_rules t ns es (Some q)) ≡ (peer_holds K ns (other_address (direction_of t) a) q && some_entry K ns (direction_of t) (Some q) a es)) (λ q g. peer-same t (Some q) g es) (p ∷ ps) (tested is_plain_peer (p ∷ ps) h))

pub rules_are_kept : RulesAreKept
rules_are_kept K R ns t a r converted plain h = peers-same K R ns a converted plain t r.ports r.peers h
