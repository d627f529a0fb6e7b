-- The rules that a policy of Kubernetes is made of may be lowered: their selectors are low, and no port has the name of slices' ports.
use Rattle.std.proofs.Common.{◌≡◌, ◌≤◌, ◌+◌, ℕ, List, [], ◌∷◌, ◌++◌, map, Bool, true, false, ◌&&◌, Option, Some, None, refl, arith}
use Rattle.std.specs.Prelude.{All, if◌then◌else◌, codes}
use Rattle.std.specs.List.{list_all, list_any, flat_map}
use Rattle.std.proofs.lemmas.Bool.{le-leb}
use Rattle.std.proofs.lemmas.List.Elements.{All-nil, All-cons, All-head, All-tail, All-append, All-weaker}
use Rattle.fx_base.specs.declared.net.Proto.{Proto}
use Rattle.fx_selector.specs.Tree.{Tree, many, and_of, height, heights}
use Rattle.fx_selector.specs.Rewriting.{namespace_tree}
use Rattle.fx_selector.proofs.Rewritten.{height-rewritten}
use Rattle.fx_model.specs.declared.rules.PortSpec.{PortSpec}
use Rattle.fx_model.specs.declared.rules.PortSpec.TheVariants.{Number, Named}
use Rattle.fx_model.specs.declared.rules.Rule.{Rule}
use Rattle.fx_model.specs.declared.rules.Side.{Side}
use Rattle.fx_fields.specs.declared.policy_fields.PolicyType.{PolicyType}
use Rattle.fx_fields.specs.declared.policy_fields.PolicyType.TheVariants.{Ingress, Egress}
use Rattle.fx_fields.proofs.Readings.{both, first_of, second_of}
use Rattle.fx_json.specs.Policies.{kept}
use Rattle.fx_k8s.specs.declared.entries.PortEntry.{PortEntry}
use Rattle.fx_k8s.specs.declared.entries.Protocol.{Protocol}
use Rattle.fx_k8s.specs.declared.entries.Protocol.TheVariants.{Tcp, Udp, Sctp}
use Rattle.fx_k8s.specs.declared.label_selectors.LabelSelector.{LabelSelector}
use Rattle.fx_k8s.specs.declared.peers.Peer.{Peer}
use Rattle.fx_k8s.specs.declared.peers.Peer.TheVariants.{Block, Pods}
use Rattle.fx_k8s.specs.declared.peers.PodPeer.{PodPeer}
use Rattle.fx_k8s.specs.declared.policies.NetworkPolicy.{NetworkPolicy}
use Rattle.fx_k8s.specs.declared.policy_rules.PolicyRule.{PolicyRule}
use Rattle.fx_k8s.specs.Conversion.{selector_trees, given_trees, orchestrated, some_namespace, namespace_trees, peer_tree, open_side, asked_side, with_ports, allow_rule, is_of, ports_from, ports_of, proto_of, protocol_rules, peer_rules, rules_of_peers, converted_rule, converted_rules, converted_policy}
use Rattle.fx_k8s.proofs.LowTrees.{low_trees}
use Rattle.fx_k8s.proofs.ReadForms.{is_formed_spec, is_formed_entry, is_formed_peer, is_formed_rule, IsFormedPolicy}
use Rattle.fx_services.specs.Lowerable.{is_low, is_other_port, is_lowerable_side, is_lowerable_rule}
use Rattle.fx_services.proofs.LowSides.{port_name-other}

-- ---- the tree of a peer

abbrev IsLow : Tree → Type 0
IsLow t = height t ≤ 2

-- rewriting adds one level
abbrev IsLowPart : Tree → Type 0
IsLowPart t = height t ≤ 3

low_rewritten : (ts : List Tree) → All IsLow ts → All IsLowPart (map namespace_tree ts)
low_rewritten [] low = All-nil IsLowPart
low_rewritten (t ∷ ts) low =
    All-cons IsLowPart (namespace_tree t) (map namespace_tree ts)
    (omega (arith, height-rewritten (codes "pcns.") (codes "projectcalico.org/namespace") t, All-head IsLow t ts low))
    (low_rewritten ts (All-tail IsLow t ts low))

low_given : (o : Option LabelSelector) → All IsLowPart (given_trees o)
low_given None = All-nil IsLowPart
low_given (Some s) = All-weaker IsLow IsLowPart (λ t h. omega (arith, h)) (selector_trees s) (low_trees s)

low_some : (ts : List Tree) → All IsLowPart ts → All IsLowPart (some_namespace ts)
low_some [] low = All-cons IsLowPart _ [] (omega arith) (All-nil IsLowPart)
low_some (t ∷ ts) low = low

low_namespaces : (ns : List ℕ) (o : Option LabelSelector) → All IsLowPart (namespace_trees ns o)
low_namespaces ns None = All-cons IsLowPart _ [] (omega arith) (All-nil IsLowPart)
low_namespaces ns (Some s) = low_some (map namespace_tree (selector_trees s)) (low_rewritten (selector_trees s) (low_trees s))

heights-low : (ts : List Tree) → All IsLowPart ts → heights (many ts) ≤ 3
heights-low [] low = omega arith
heights-low (t ∷ ts) low = omega (arith, All-head IsLowPart t ts low, heights-low ts (All-tail IsLowPart t ts low))

height-and : (ts : List Tree) → height (and_of ts) ≤ heights (many ts) + 1
height-and [] = omega arith
height-and (t ∷ []) = omega arith
height-and (t ∷ u ∷ us) = omega arith

peer-low : (ns : List ℕ) (p : PodPeer) → is_low (Some (peer_tree ns p)) ≡ true
peer-low ns p =
    let parts = given_trees p.pods ++ orchestrated ∷ namespace_trees ns p.namespaces in
    let low : All IsLowPart parts =
    All-append IsLowPart (given_trees p.pods) (orchestrated ∷ namespace_trees ns p.namespaces) (low_given p.pods)
    (All-cons IsLowPart orchestrated (namespace_trees ns p.namespaces) (omega arith) (low_namespaces ns p.namespaces)) in
    let height_low : height (peer_tree ns p) ≤ 138 = omega (arith, height-and parts, heights-low parts low) in
    le-leb (height (peer_tree ns p)) 138 height_low

-- ---- ports

abbrev AreOther : List PortSpec → Type 0
AreOther xs = list_all is_other_port xs ≡ true

port-other : (x : PortSpec) → is_formed_spec (Some x) ≡ true → is_other_port x ≡ true
port-other (Number r) e = refl
port-other (Named name) e = port_name-other name e

ports-append : (xs : List PortSpec) (x : PortSpec) → AreOther xs → is_other_port x ≡ true → AreOther (xs ++ x ∷ [])
ports-append [] x h e = both (is_other_port x) true e refl
ports-append (y ∷ ys) x h e =
    both (is_other_port y) (list_all is_other_port (ys ++ x ∷ [])) (first_of (is_other_port y) (list_all is_other_port ys) h)
    (ports-append ys x (second_of (is_other_port y) (list_all is_other_port ys) h) e)

ports_from-other : (p : Protocol) (xs : List PortSpec) (es : List PortEntry) → list_all is_formed_entry es ≡ true → AreOther xs → AreOther (ports_from p xs es)
ports_from-other p xs [] e h = h
ports_from-other p xs (x ∷ es) e h =
    by (λ ys g. ports_from-other p ys es (second_of (is_formed_entry x) (list_all is_formed_entry es) e) g) (is_of p x) x.port (first_of (is_formed_entry x) (list_all is_formed_entry es) e)
  where
    by_port : ((ys : List PortSpec) → AreOther ys → AreOther (ports_from p ys es)) → (o : Option PortSpec) → is_formed_spec o ≡ true → AreOther (elim o [ None ↦ [] | Some y ↦ ports_from p (xs ++ y ∷ []) es ])
    by_port rest None g = refl
    by_port rest (Some y) g = rest (xs ++ y ∷ []) (ports-append xs y h (port-other y g))

    by : ((ys : List PortSpec) → AreOther ys → AreOther (ports_from p ys es)) → (b : Bool) (o : Option PortSpec) → is_formed_spec o ≡ true → AreOther (elim b [ true ↦ elim o [ None ↦ [] | Some y ↦ ports_from p (xs ++ y ∷ []) es ] | false ↦ ports_from p xs es ])
    by rest true o g = by_port rest o g
    by rest false o g = rest xs h

-- ---- rules

module _ (ns : List ℕ) where
  abbrev IsRule : Rule → Type 0
  IsRule r = is_lowerable_rule r ≡ true

  side-low : (s : Side) → (is_low s.selector && is_low s.not_selector) ≡ true → (list_all is_other_port s.ports && list_all is_other_port s.not_ports) ≡ true → is_lowerable_side s ≡ true
  side-low s e f = both (is_low s.selector && is_low s.not_selector) (list_all is_other_port s.ports && list_all is_other_port s.not_ports) e f

  asked-low : (o : Option Peer) → (is_low (asked_side ns o).side.selector && is_low (asked_side ns o).side.not_selector) ≡ true
  asked-low None = refl
  asked-low (Some (Block b)) = refl
  asked-low (Some (Pods p)) = both (is_low (Some (peer_tree ns p))) true (peer-low ns p) refl

  asked_ports : (o : Option Peer) → (list_all is_other_port (asked_side ns o).side.ports && list_all is_other_port (asked_side ns o).side.not_ports) ≡ true
  asked_ports None = refl
  asked_ports (Some (Block b)) = refl
  asked_ports (Some (Pods p)) = refl

  asked_not_ports : (o : Option Peer) → list_all is_other_port (asked_side ns o).side.not_ports ≡ true
  asked_not_ports None = refl
  asked_not_ports (Some (Block b)) = refl
  asked_not_ports (Some (Pods p)) = refl

  allow-low : (d : PolicyType) (o : Option Peer) (proto : Option Proto) (ports : List PortSpec) → AreOther ports → IsRule (allow_rule d (asked_side ns o) proto ports)
  allow-low Ingress o proto ports g =
      let rule = allow_rule Ingress (asked_side ns o) proto ports in
      both (is_lowerable_side rule.source) (is_lowerable_side rule.destination)
      (side-low (asked_side ns o).side (asked-low o) (asked_ports o))
      (side-low (with_ports open_side ports) refl (both (list_all is_other_port ports) true g refl))
  allow-low Egress o proto ports g =
      let rule = allow_rule Egress (asked_side ns o) proto ports in
      both (is_lowerable_side rule.source) (is_lowerable_side rule.destination)
      (side-low open_side refl refl)
      (side-low (with_ports (asked_side ns o).side ports) (asked-low o) (both (list_all is_other_port ports) (list_all is_other_port (asked_side ns o).side.not_ports) g (asked_not_ports o)))

  -- ---- from one rule to many

  abbrev AreRules : List Rule → Type 0
  AreRules rs = list_all is_lowerable_rule rs ≡ true

  rules-append : (rs qs : List Rule) → AreRules rs → AreRules qs → AreRules (rs ++ qs)
  rules-append [] qs h g = g
  rules-append (r ∷ rs) qs h g =
      both (is_lowerable_rule r) (list_all is_lowerable_rule (rs ++ qs)) (first_of (is_lowerable_rule r) (list_all is_lowerable_rule rs) h)
      (rules-append rs qs (second_of (is_lowerable_rule r) (list_all is_lowerable_rule rs) h) g)

  one-rule : (r : Rule) → IsRule r → AreRules (r ∷ [])
  one-rule r h = both (is_lowerable_rule r) true h refl

  module _ (d : PolicyType) where
    protocol-low : (es : List PortEntry) → list_all is_formed_entry es ≡ true → (o : Option Peer) (p : Protocol) → AreRules (protocol_rules d ns es o p)
    protocol-low es e o p = by (list_any (is_of p) es)
      where
        rule : Rule
        rule = allow_rule d (asked_side ns o) (Some (proto_of p)) (ports_of p es)

        by : (b : Bool) → AreRules (if b then allow_rule d (asked_side ns o) (Some (proto_of p)) (ports_of p es) ∷ [] else [])
        by true = one-rule rule (allow-low d o (Some (proto_of p)) (ports_of p es) (ports_from-other p [] es e refl))
        by false = refl

    peer_rules-low : (es : List PortEntry) → list_all is_formed_entry es ≡ true → (o : Option Peer) → AreRules (peer_rules d ns es o)
    peer_rules-low [] e o = one-rule (allow_rule d (asked_side ns o) None []) (allow-low d o None [] refl)
    peer_rules-low (x ∷ es) e o =
        rules-append (protocol_rules d ns (x ∷ es) o Tcp) (protocol_rules d ns (x ∷ es) o Udp ++ protocol_rules d ns (x ∷ es) o Sctp) (protocol-low (x ∷ es) e o Tcp)
        (rules-append (protocol_rules d ns (x ∷ es) o Udp) (protocol_rules d ns (x ∷ es) o Sctp) (protocol-low (x ∷ es) e o Udp) (protocol-low (x ∷ es) e o Sctp))

    each_peer-low : (es : List PortEntry) → list_all is_formed_entry es ≡ true → (ps : List Peer) → AreRules (flat_map (λ q. peer_rules d ns es (Some q)) ps)
    each_peer-low es e [] = refl
    each_peer-low es e (p ∷ ps) =
        rules-append (peer_rules d ns es (Some p)) (flat_map (λ q. peer_rules d ns es (Some q)) ps) (peer_rules-low es e (Some p)) (each_peer-low es e ps)

    peers-low : (es : List PortEntry) → list_all is_formed_entry es ≡ true → (ps : List Peer) → AreRules (rules_of_peers d ns es ps)
    peers-low es e [] = peer_rules-low es e None
    peers-low es e (p ∷ ps) = each_peer-low es e (p ∷ ps)

    rules-low : (rs : List PolicyRule) → list_all is_formed_rule rs ≡ true → AreRules (converted_rules d ns rs)
    rules-low [] e = refl
    rules-low (r ∷ rs) e =
        rules-append (converted_rule d ns r) (converted_rules d ns rs)
        (peers-low r.ports (second_of (list_all is_formed_peer r.peers) (list_all is_formed_entry r.ports) (first_of (is_formed_rule r) (list_all is_formed_rule rs) e)) r.peers)
        (rules-low rs (second_of (is_formed_rule r) (list_all is_formed_rule rs) e))

  kept-low : (on : Bool) (rules : List Rule) → AreRules rules → AreRules (kept on rules)
  kept-low true rules e = e
  kept-low false rules e = refl

  pub policy-low : (p : NetworkPolicy) → IsFormedPolicy p → (list_all is_lowerable_rule (converted_policy ns p).ingress ≡ true) × (list_all is_lowerable_rule (converted_policy ns p).egress ≡ true)
  policy-low p h = (
    kept-low p.on_ingress (converted_rules Ingress ns p.ingress) (rules-low Ingress p.ingress h.1.0),
    kept-low p.on_egress (converted_rules Egress ns p.egress) (rules-low Egress p.egress h.1.1),
  )
