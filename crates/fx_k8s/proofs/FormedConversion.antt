-- Each policy that is made of one of Kubernetes is formed: its rules list ports beside a protocol that has them, and their selectors
-- are ones that some text spells, and not too high.
use Rattle.std.proofs.Common.{◌≡◌, ◌≤◌, ℕ, List, [], ◌∷◌, ◌++◌, map, length, nat_le, Bool, true, false, Option, Some, None, refl, arith, lit<}
use Rattle.std.specs.Prelude.{◌&&◌, if◌then◌else◌, codes}
use Rattle.std.specs.List.{list_all, list_any, flat_map}
use Rattle.std.proofs.lemmas.Bool.{le-leb}
use Rattle.fx_selector.specs.Formed.{is_key_text, is_tree}
use Rattle.fx_selector.specs.Tree.{Tree, IsTree, AreTrees, IsKey, IsString, many, and_of, height}
use Rattle.fx_selector.specs.Rewriting.{namespace_tree}
use Rattle.fx_selector.proofs.FormedTrees.{tree_tested, tested_key}
use Rattle.fx_selector.proofs.Literals.{literal_key, literal_string}
use Rattle.fx_selector.proofs.Rewritten.{namespace_selector}
use Rattle.fx_selector.proofs.Sound.{one_of_selector}
use Rattle.fx_model.specs.declared.rules.PortSpec.{PortSpec}
use Rattle.fx_model.specs.declared.rules.PortSpec.TheVariants.{Number, Named}
use Rattle.fx_model.specs.declared.rules.Rule.{Rule}
use Rattle.fx_model.specs.declared.rules.Side.{Side}
use Rattle.fx_base.specs.declared.net.Proto.{Proto}
use Rattle.fx_base.specs.Given.{is_given}
use Rattle.fx_model.specs.Formed as formed
use Rattle.fx_fields.specs.declared.policy_fields.PolicyType.{PolicyType}
use Rattle.fx_fields.specs.declared.policy_fields.PolicyType.TheVariants.{Ingress, Egress}
use Rattle.fx_fields.specs.Forms.{is_label_value}
use Rattle.fx_fields.proofs.NameTexts.{label_value-string, label_values-strings}
use Rattle.fx_fields.proofs.Readings.{both, first_of, second_of}
use Rattle.fx_json.specs.Policies.{kept}
use Rattle.fx_json.proofs.FormedNames.{port_name-formed}
use Rattle.fx_json.proofs.Implied.{implied}
use Rattle.fx_k8s.specs.declared.entries.PortEntry.{PortEntry}
use Rattle.fx_k8s.specs.declared.entries.Protocol.{Protocol}
use Rattle.fx_k8s.specs.declared.entries.Protocol.TheVariants.{Tcp, Udp, Sctp}
use Rattle.fx_k8s.specs.declared.expressions.Expression.{Expression}
use Rattle.fx_k8s.specs.declared.expressions.Expression.TheVariants.{In, NotIn, Exists, DoesNotExist}
use Rattle.fx_k8s.specs.declared.label_selectors.LabelPair.{LabelPair}
use Rattle.fx_k8s.specs.declared.label_selectors.LabelSelector.{LabelSelector}
use Rattle.fx_k8s.specs.declared.peers.Peer.{Peer}
use Rattle.fx_k8s.specs.declared.peers.Peer.TheVariants.{Block, Pods}
use Rattle.fx_k8s.specs.declared.peers.PodPeer.{PodPeer}
use Rattle.fx_k8s.specs.declared.policies.NetworkPolicy.{NetworkPolicy}
use Rattle.fx_k8s.specs.declared.policy_rules.PolicyRule.{PolicyRule}
use Rattle.fx_k8s.specs.LabelSelectors.{is_label_key}
use Rattle.fx_k8s.specs.Conversion.{pair_tree, expression_tree, selector_trees, given_trees, orchestrated, some_namespace, namespace_trees, peer_tree, open_side, asked_side, with_ports, allow_rule, is_of, ports_from, ports_of, proto_of, protocol_rules, peer_rules, rules_of_peers, converted_rule, converted_rules, converted_policy}
use Rattle.fx_k8s.proofs.LowTrees.{low_peer}
use Rattle.fx_k8s.proofs.ReadForms.{is_formed_pair, is_formed_expression, is_formed_selector, is_formed_part, is_formed_peer, is_formed_spec, is_formed_entry, is_formed_rule, IsFormedPolicy}

-- ---- trees of label selectors

key-tree : (k : List ℕ) → is_label_key k ≡ true → IsKey k
key-tree k e = tested_key k (second_of (nat_le (length k) 512) (is_key_text k) e)

expression-tree : (x : Expression) → is_formed_expression x ≡ true → IsTree (expression_tree x)
expression-tree (In k vs) e =
    (one_of_selector k vs false (key-tree k (first_of (is_label_key k) (list_all is_label_value vs) e)) (label_values-strings vs (second_of (is_label_key k) (list_all is_label_value vs) e))).tree
expression-tree (NotIn k vs) e =
    (one_of_selector k vs true (key-tree k (first_of (is_label_key k) (list_all is_label_value vs) e)) (label_values-strings vs (second_of (is_label_key k) (list_all is_label_value vs) e))).tree
expression-tree (Exists k) e = key-tree k e
expression-tree (DoesNotExist k) e = key-tree k e

trees-append : (ts us : List Tree) → AreTrees (many ts) → AreTrees (many us) → AreTrees (many (ts ++ us))
trees-append [] us h g = g
trees-append (t ∷ ts) us h g = (h.0, trees-append ts us h.1 g)

pairs-trees : (ps : List LabelPair) → list_all is_formed_pair ps ≡ true → AreTrees (many (map pair_tree ps))
pairs-trees [] e = tt
pairs-trees (p ∷ ps) e =
    let here = first_of (is_formed_pair p) (list_all is_formed_pair ps) e in (
      (key-tree p.key (first_of (is_label_key p.key) (is_label_value p.value) here), label_value-string p.value (second_of (is_label_key p.key) (is_label_value p.value) here)),
      pairs-trees ps (second_of (is_formed_pair p) (list_all is_formed_pair ps) e),
    )

expressions-trees : (xs : List Expression) → list_all is_formed_expression xs ≡ true → AreTrees (many (map expression_tree xs))
expressions-trees [] e = tt
expressions-trees (x ∷ xs) e =
    (expression-tree x (first_of (is_formed_expression x) (list_all is_formed_expression xs) e), expressions-trees xs (second_of (is_formed_expression x) (list_all is_formed_expression xs) e))

selector-trees : (s : LabelSelector) → is_formed_selector s ≡ true → AreTrees (many (selector_trees s))
selector-trees s e =
    trees-append (map pair_tree s.labels) (map expression_tree s.expressions)
    (pairs-trees s.labels (first_of (list_all is_formed_pair s.labels) (list_all is_formed_expression s.expressions) e))
    (expressions-trees s.expressions (second_of (list_all is_formed_pair s.labels) (list_all is_formed_expression s.expressions) e))

given-trees : (o : Option LabelSelector) → is_formed_part o ≡ true → AreTrees (many (given_trees o))
given-trees None e = tt
given-trees (Some s) e = selector-trees s e

-- ---- the pods of a peer

orchestrated-tree : IsTree orchestrated
orchestrated-tree = (literal_key (codes "projectcalico.org/orchestrator") refl (lit< tt), literal_string (codes "k8s") refl)

namespace-key : IsKey (codes "projectcalico.org/namespace")
namespace-key = literal_key (codes "projectcalico.org/namespace") refl (lit< tt)

-- a tree of a label selector isn't deep
low : (x : Expression) → height (expression_tree x) ≤ 139
low (In k vs) = omega arith
low (NotIn k vs) = omega arith
low (Exists k) = omega arith
low (DoesNotExist k) = omega arith

rewritten-pairs : (ps : List LabelPair) → AreTrees (many (map pair_tree ps)) → AreTrees (many (map namespace_tree (map pair_tree ps)))
rewritten-pairs [] h = tt
rewritten-pairs (p ∷ ps) h = ((namespace_selector (pair_tree p) h.0 (omega arith)).tree, rewritten-pairs ps h.1)

rewritten-expressions : (xs : List Expression) → AreTrees (many (map expression_tree xs)) → AreTrees (many (map namespace_tree (map expression_tree xs)))
rewritten-expressions [] h = tt
rewritten-expressions (x ∷ xs) h = ((namespace_selector (expression_tree x) h.0 (low x)).tree, rewritten-expressions xs h.1)

map-append : {A B : Type 0} (f : A → B) (xs ys : List A) → map f (xs ++ ys) ≡ map f xs ++ map f ys
map-append f [] ys = refl
map-append {B = B} f (x ∷ xs) ys = let rest : map f (xs ++ ys) ≡ map f xs ++ map f ys = map-append f xs ys in λ i. f x ∷ rest i

rewritten-selector : (s : LabelSelector) → is_formed_selector s ≡ true → AreTrees (many (map namespace_tree (selector_trees s)))
rewritten-selector s e =
    rw (map-append namespace_tree (map pair_tree s.labels) (map expression_tree s.expressions))
    (trees-append (map namespace_tree (map pair_tree s.labels)) (map namespace_tree (map expression_tree s.expressions))
    (rewritten-pairs s.labels (pairs-trees s.labels (first_of (list_all is_formed_pair s.labels) (list_all is_formed_expression s.expressions) e)))
    (rewritten-expressions s.expressions (expressions-trees s.expressions (second_of (list_all is_formed_pair s.labels) (list_all is_formed_expression s.expressions) e))))

some-trees : (ts : List Tree) → AreTrees (many ts) → AreTrees (many (some_namespace ts))
some-trees [] h = (namespace-key, tt)
some-trees (t ∷ ts) h = h

module _ (ns : List ℕ) (string : IsString ns) where
  namespaces-trees : (o : Option LabelSelector) → is_formed_part o ≡ true → AreTrees (many (namespace_trees ns o))
  namespaces-trees None e = ((namespace-key, string), tt)
  namespaces-trees (Some s) e = some-trees (map namespace_tree (selector_trees s)) (rewritten-selector s e)

  and-tree : (ts : List Tree) → AreTrees (many ts) → IsTree (and_of ts)
  and-tree [] h = tt
  and-tree (t ∷ []) h = h.0
  and-tree (t ∷ u ∷ us) h = (h, omega arith)

  peer-tree : (p : PodPeer) → is_formed_peer (Pods p) ≡ true → formed.is_formed_selector (Some (peer_tree ns p)) ≡ true
  peer-tree p e =
      both (is_tree (peer_tree ns p)) (nat_le (height (peer_tree ns p)) 139)
      (tree_tested (peer_tree ns p) (and-tree (given_trees p.pods ++ orchestrated ∷ namespace_trees ns p.namespaces)
      (trees-append (given_trees p.pods) (orchestrated ∷ namespace_trees ns p.namespaces) (given-trees p.pods (first_of (is_formed_part p.pods) (is_formed_part p.namespaces) e))
      (orchestrated-tree, namespaces-trees p.namespaces (second_of (is_formed_part p.pods) (is_formed_part p.namespaces) e)))))
      (le-leb (height (peer_tree ns p)) 139 (low_peer ns p))

  -- ---- ports

  port-formed : (x : PortSpec) → is_formed_spec (Some x) ≡ true → formed.is_formed_port x ≡ true
  port-formed (Number r) e = refl
  port-formed (Named name) e = port_name-formed name e

  abbrev ArePorts : List PortSpec → Type 0
  ArePorts xs = list_all formed.is_formed_port xs ≡ true

  ports-append : (xs : List PortSpec) (x : PortSpec) → ArePorts xs → formed.is_formed_port x ≡ true → ArePorts (xs ++ x ∷ [])
  ports-append [] x h e = both (formed.is_formed_port x) true e refl
  ports-append (y ∷ ys) x h e =
      both (formed.is_formed_port y) (list_all formed.is_formed_port (ys ++ x ∷ [])) (first_of (formed.is_formed_port y) (list_all formed.is_formed_port ys) h)
      (ports-append ys x (second_of (formed.is_formed_port y) (list_all formed.is_formed_port ys) h) e)

  ports_from-formed : (p : Protocol) (xs : List PortSpec) (es : List PortEntry) → list_all is_formed_entry es ≡ true → ArePorts xs → ArePorts (ports_from p xs es)
  ports_from-formed p xs [] e h = h
  ports_from-formed p xs (x ∷ es) e h =
      by (λ ys g. ports_from-formed p ys es (second_of (is_formed_entry x) (list_all is_formed_entry es) e) g) (is_of p x) x.port (first_of (is_formed_entry x) (list_all is_formed_entry es) e)
    where
      by_port : ((ys : List PortSpec) → ArePorts ys → ArePorts (ports_from p ys es)) → (o : Option PortSpec) → is_formed_spec o ≡ true → ArePorts (elim o [ None ↦ [] | Some y ↦ ports_from p (xs ++ y ∷ []) es ])
      by_port rest None g = refl
      by_port rest (Some y) g = rest (xs ++ y ∷ []) (ports-append xs y h (port-formed y g))

      by : ((ys : List PortSpec) → ArePorts ys → ArePorts (ports_from p ys es)) → (b : Bool) (o : Option PortSpec) → is_formed_spec o ≡ true → ArePorts (elim b [ true ↦ elim o [ None ↦ [] | Some y ↦ ports_from p (xs ++ y ∷ []) es ] | false ↦ ports_from p xs es ])
      by rest true o g = by_port rest o g
      by rest false o g = rest xs h

  -- ---- sides

  side-formed : (s : Side) → (formed.is_formed_selector s.selector && formed.is_formed_selector s.not_selector) ≡ true → (list_all formed.is_formed_port s.ports && list_all formed.is_formed_port s.not_ports) ≡ true → formed.is_formed_side s ≡ true
  side-formed s e f =
      both (formed.is_formed_selector s.selector && formed.is_formed_selector s.not_selector) (list_all formed.is_formed_port s.ports && list_all formed.is_formed_port s.not_ports) e f

  abbrev IsGivenPeer : Option Peer → Type 0
  IsGivenPeer None = Unit {0}
  IsGivenPeer (Some p) = is_formed_peer p ≡ true

  -- the selectors of the other end's side
  asked-formed : (o : Option Peer) → IsGivenPeer o → (formed.is_formed_selector (asked_side ns o).side.selector && formed.is_formed_selector (asked_side ns o).side.not_selector) ≡ true
  asked-formed None h = refl
  asked-formed (Some (Block b)) h = refl
  asked-formed (Some (Pods p)) h = both (formed.is_formed_selector (Some (peer_tree ns p))) true (peer-tree p h) refl

  -- and it lists no ports
  asked_ports : (o : Option Peer) → (list_all formed.is_formed_port (asked_side ns o).side.ports && list_all formed.is_formed_port (asked_side ns o).side.not_ports) ≡ true
  asked_ports None = refl
  asked_ports (Some (Block b)) = refl
  asked_ports (Some (Pods p)) = refl

  asked_not_ports : (o : Option Peer) → list_all formed.is_formed_port (asked_side ns o).side.not_ports ≡ true
  asked_not_ports None = refl
  asked_not_ports (Some (Block b)) = refl
  asked_not_ports (Some (Pods p)) = refl

  -- ---- rules

  abbrev IsRule : Rule → Type 0
  IsRule r = formed.is_formed_rule r ≡ true

  has_its_ports : (p : Protocol) → formed.has_port_protocol (Some (proto_of p)) ≡ true
  has_its_ports Tcp = refl
  has_its_ports Udp = refl
  has_its_ports Sctp = refl

  -- ports stand beside a protocol that has them
  abbrev StandBeside : List PortSpec → Option Proto → Type 0
  StandBeside ports proto = formed.implies (is_given ports) (formed.has_port_protocol proto) ≡ true

  listed : (o : Option Peer) (d : PolicyType) (proto : Option Proto) (ports : List PortSpec) → StandBeside ports proto → formed.has_its_protocol (allow_rule d (asked_side ns o) proto ports) ≡ true
  listed None Ingress proto [] h = refl
  listed None Egress proto [] h = refl
  listed (Some (Block b)) Ingress proto [] h = refl
  listed (Some (Block b)) Egress proto [] h = refl
  listed (Some (Pods p)) Ingress proto [] h = refl
  listed (Some (Pods p)) Egress proto [] h = refl
  listed None Ingress proto (x ∷ xs) h = both (formed.has_port_protocol proto) true h refl
  listed None Egress proto (x ∷ xs) h = both (formed.has_port_protocol proto) true h refl
  listed (Some (Block b)) Ingress proto (x ∷ xs) h = both (formed.has_port_protocol proto) true h refl
  listed (Some (Block b)) Egress proto (x ∷ xs) h = both (formed.has_port_protocol proto) true h refl
  listed (Some (Pods p)) Ingress proto (x ∷ xs) h = both (formed.has_port_protocol proto) true h refl
  listed (Some (Pods p)) Egress proto (x ∷ xs) h = both (formed.has_port_protocol proto) true h refl

  allow-formed : (d : PolicyType) (o : Option Peer) (proto : Option Proto) (ports : List PortSpec) → IsGivenPeer o → ArePorts ports → StandBeside ports proto → IsRule (allow_rule d (asked_side ns o) proto ports)
  allow-formed Ingress o proto ports h g beside =
      let rule = allow_rule Ingress (asked_side ns o) proto ports in
      both (formed.has_its_protocol rule) (formed.is_formed_side rule.source && formed.is_formed_side rule.destination) (listed o Ingress proto ports beside)
      (both (formed.is_formed_side rule.source) (formed.is_formed_side rule.destination)
      (side-formed (asked_side ns o).side (asked-formed o h) (asked_ports o))
      (side-formed (with_ports open_side ports) refl (both (list_all formed.is_formed_port ports) true g refl)))
  allow-formed Egress o proto ports h g beside =
      let rule = allow_rule Egress (asked_side ns o) proto ports in
      both (formed.has_its_protocol rule) (formed.is_formed_side rule.source && formed.is_formed_side rule.destination) (listed o Egress proto ports beside)
      (both (formed.is_formed_side rule.source) (formed.is_formed_side rule.destination)
      (side-formed open_side refl refl)
      (side-formed (with_ports (asked_side ns o).side ports) (asked-formed o h) (both (list_all formed.is_formed_port ports) (list_all formed.is_formed_port (asked_side ns o).side.not_ports) g (asked_not_ports o))))

  -- ---- from one rule to many

  abbrev AreRules : List Rule → Type 0
  AreRules rs = list_all formed.is_formed_rule rs ≡ true

  rules-append : (rs qs : List Rule) → AreRules rs → AreRules qs → AreRules (rs ++ qs)
  rules-append [] qs h g = g
  rules-append (r ∷ rs) qs h g =
      both (formed.is_formed_rule r) (list_all formed.is_formed_rule (rs ++ qs)) (first_of (formed.is_formed_rule r) (list_all formed.is_formed_rule rs) h)
      (rules-append rs qs (second_of (formed.is_formed_rule r) (list_all formed.is_formed_rule rs) h) g)

  one-rule : (r : Rule) → IsRule r → AreRules (r ∷ [])
  one-rule r h = both (formed.is_formed_rule r) true h refl

  -- what gives formed rules for each gives formed rules for all
  rules-flat_map : {A : Type 0} (test : A → Bool) (f : A → List Rule) → ((x : A) → test x ≡ true → AreRules (f x)) → (xs : List A) → list_all test xs ≡ true → AreRules (flat_map f xs)
  rules-flat_map test f each [] e = refl
  rules-flat_map test f each (x ∷ xs) e =
      rules-append (f x) (flat_map f xs) (each x (first_of (test x) (list_all test xs) e)) (rules-flat_map test f each xs (second_of (test x) (list_all test xs) e))

  module _ (d : PolicyType) where
    protocol-formed : (es : List PortEntry) → list_all is_formed_entry es ≡ true → (o : Option Peer) → IsGivenPeer o → (p : Protocol) → AreRules (protocol_rules d ns es o p)
    protocol-formed es e o h p = by (list_any (is_of p) es)
      where
        rule : Rule
        rule = allow_rule d (asked_side ns o) (Some (proto_of p)) (ports_of p es)

        by : (b : Bool) → AreRules (if b then allow_rule d (asked_side ns o) (Some (proto_of p)) (ports_of p es) ∷ [] else [])
        by true =
            one-rule rule (allow-formed d o (Some (proto_of p)) (ports_of p es) h (ports_from-formed p [] es e refl)
            (implied (is_given (ports_of p es)) (formed.has_port_protocol (Some (proto_of p))) (has_its_ports p)))
        by false = refl

    peer-formed : (es : List PortEntry) → list_all is_formed_entry es ≡ true → (o : Option Peer) → IsGivenPeer o → AreRules (peer_rules d ns es o)
    peer-formed [] e o h = one-rule (allow_rule d (asked_side ns o) None []) (allow-formed d o None [] h refl refl)
    peer-formed (x ∷ es) e o h =
        rules-append (protocol_rules d ns (x ∷ es) o Tcp) (protocol_rules d ns (x ∷ es) o Udp ++ protocol_rules d ns (x ∷ es) o Sctp) (protocol-formed (x ∷ es) e o h Tcp)
        (rules-append (protocol_rules d ns (x ∷ es) o Udp) (protocol_rules d ns (x ∷ es) o Sctp) (protocol-formed (x ∷ es) e o h Udp) (protocol-formed (x ∷ es) e o h Sctp))

    peers-formed : (es : List PortEntry) → list_all is_formed_entry es ≡ true → (ps : List Peer) → list_all is_formed_peer ps ≡ true → AreRules (rules_of_peers d ns es ps)
    peers-formed es e [] h = peer-formed es e None tt
    peers-formed es e (p ∷ ps) h = rules-flat_map is_formed_peer (λ q. peer_rules d ns es (Some q)) (λ q formed_q. peer-formed es e (Some q) formed_q) (p ∷ ps) h

    rule-formed : (r : PolicyRule) → is_formed_rule r ≡ true → AreRules (converted_rule d ns r)
    rule-formed r e =
        peers-formed r.ports (second_of (list_all is_formed_peer r.peers) (list_all is_formed_entry r.ports) e) r.peers (first_of (list_all is_formed_peer r.peers) (list_all is_formed_entry r.ports) e)

    rules-formed : (rs : List PolicyRule) → list_all is_formed_rule rs ≡ true → AreRules (converted_rules d ns rs)
    rules-formed rs e = rules-flat_map is_formed_rule (converted_rule d ns) rule-formed rs e

  kept-formed : (on : Bool) (rules : List Rule) → AreRules rules → AreRules (kept on rules)
  kept-formed true rules e = e
  kept-formed false rules e = refl

  pub policy-formed : (p : NetworkPolicy) → IsFormedPolicy p → formed.is_formed_policy (converted_policy ns p) ≡ true
  policy-formed p h =
      both (list_all formed.is_formed_rule (converted_policy ns p).ingress) (list_all formed.is_formed_rule (converted_policy ns p).egress)
      (kept-formed p.on_ingress (converted_rules Ingress ns p.ingress) (rules-formed Ingress p.ingress h.1.0))
      (kept-formed p.on_egress (converted_rules Egress ns p.egress) (rules-formed Egress p.egress h.1.1))
