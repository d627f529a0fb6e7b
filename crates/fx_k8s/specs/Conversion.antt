-- What a NetworkPolicy of Kubernetes is as a policy of Calico: the endpoints of its namespace that Kubernetes runs and that
-- `podSelector` selects, in the tier `default`, with one rule that allows for each peer and each protocol. From Calico's resource
-- reference (`projectcalico.org/v3`): an endpoint has its namespace, its orchestrator, and under `pcns.` the labels of its namespace among
-- its labels; a rule's side asks by one selector, and lists ports of one protocol.
use Rattle.std.specs.Prelude.{ℕ, pos, List, [], ◌∷◌, ◌++◌, map, Bool, true, false, nat_eq, if◌then◌else◌, Option, Some, None, option_to_list, codes}
use Rattle.std.specs.List.{list_any, flat_map}
use Rattle.fx_base.specs.declared.net.NetText.{NetText}
use Rattle.fx_base.specs.declared.net.Proto.{Proto}
use Rattle.fx_selector.specs.Tree.{Tree, has, equal, within, outside, negated, set_of, and_of}
use Rattle.fx_selector.specs.Rewriting.{namespace_tree}
use Rattle.fx_model.specs.declared.policy.Policy.{Policy}
use Rattle.fx_model.specs.declared.rules.Action.TheVariants as action
use Rattle.fx_model.specs.declared.rules.PortSpec.{PortSpec}
use Rattle.fx_model.specs.declared.rules.Rule.{Rule}
use Rattle.fx_model.specs.declared.rules.Side.{Side}
use Rattle.fx_fields.specs.declared.policy_fields.PolicyType.{PolicyType}
use Rattle.fx_fields.specs.declared.policy_fields.PolicyType.TheVariants.{Ingress, Egress}
use Rattle.fx_fields.specs.Nets.{ipv4, is_ipv6}
use Rattle.fx_fields.specs.Selectors.{of_namespace}
use Rattle.fx_json.specs.Policies.{kept}
use Rattle.fx_k8s.specs.declared.conversion.AskedSide.{AskedSide}
use Rattle.fx_k8s.specs.declared.entries.PortEntry.{PortEntry}
use Rattle.fx_k8s.specs.declared.entries.Protocol.{Protocol}
use Rattle.fx_k8s.specs.declared.entries.Protocol.TheVariants.{Tcp, Udp, Sctp}
use Rattle.fx_k8s.specs.declared.expressions.Expression.{Expression}
use Rattle.fx_k8s.specs.declared.expressions.Expression.TheVariants.{In, NotIn, Exists, DoesNotExist}
use Rattle.fx_k8s.specs.declared.label_selectors.LabelPair.{LabelPair}
use Rattle.fx_k8s.specs.declared.label_selectors.LabelSelector.{LabelSelector}
use Rattle.fx_k8s.specs.declared.peers.Peer.{Peer}
use Rattle.fx_k8s.specs.declared.peers.Peer.TheVariants.{Block, Pods}
use Rattle.fx_k8s.specs.declared.peers.PodPeer.{PodPeer}
use Rattle.fx_k8s.specs.declared.policies.NetworkPolicy.{NetworkPolicy}
use Rattle.fx_k8s.specs.declared.policy_rules.PolicyRule.{PolicyRule}
use Rattle.fx_k8s.specs.Entries.{number_of}

-- ---- label selectors, part by part

abbrev pub pair_tree : LabelPair → Tree
pair_tree p = equal p.key p.value

abbrev pub expression_tree : Expression → Tree
expression_tree (In k vs) = within k (set_of vs)
expression_tree (NotIn k vs) = outside k (set_of vs)
expression_tree (Exists k) = has k
expression_tree (DoesNotExist k) = negated (has k)

abbrev pub selector_trees : LabelSelector → List Tree
selector_trees s = map pair_tree s.labels ++ map expression_tree s.expressions

-- an absent selector asks nothing
abbrev pub given_trees : Option LabelSelector → List Tree
given_trees None = []
given_trees (Some s) = selector_trees s

-- the endpoints that Kubernetes runs
abbrev pub orchestrated : Tree
orchestrated = equal (codes "projectcalico.org/orchestrator") (codes "k8s")

-- ---- the pods that a policy isolates

abbrev pub policy_tree : List ℕ → LabelSelector → Tree
policy_tree ns pods = and_of (selector_trees pods ++ orchestrated ∷ of_namespace ns ∷ [])

-- ---- the pods of a peer

-- where nothing is asked of a namespace, there is one
abbrev pub some_namespace : List Tree → List Tree
some_namespace [] = has (codes "projectcalico.org/namespace") ∷ []
some_namespace (t ∷ ts) = t ∷ ts

-- the namespaces that are selected, or the policy's own
abbrev pub namespace_trees : List ℕ → Option LabelSelector → List Tree
namespace_trees ns None = of_namespace ns ∷ []
namespace_trees ns (Some s) = some_namespace (map namespace_tree (selector_trees s))

abbrev pub peer_tree : List ℕ → PodPeer → Tree
peer_tree ns p = and_of (given_trees p.pods ++ orchestrated ∷ namespace_trees ns p.namespaces)

-- ---- what a rule asks of the other end

-- nothing
abbrev pub open_side : Side
open_side = record { nets = []; not_nets = []; selector = None; not_selector = None; ports = []; not_ports = [] }

abbrev pub block_side : NetText → Side
block_side cidr = record open_side { nets = option_to_list (ipv4 cidr) }

-- no packet of IPv4 has an address of IPv6
abbrev pub asked_side : List ℕ → Option Peer → AskedSide
asked_side ns None = record { side = open_side; never = false }
asked_side ns (Some (Block b)) = record { side = record (block_side b.cidr) { not_nets = b.except }; never = is_ipv6 b.cidr }
asked_side ns (Some (Pods p)) = record { side = record open_side { selector = Some (peer_tree ns p) }; never = false }

abbrev pub with_ports : Side → List PortSpec → Side
with_ports s ports = record s { ports = ports }

-- ---- rules

abbrev pub rule_of : Bool → Option Proto → Side → Side → Rule
rule_of never proto source destination = record {
  action = action.Allow;
  never = never;
  protocol = proto;
  not_protocol = None;
  icmp = None;
  not_icmp = None;
  source = source;
  destination = destination;
}

-- the other end is the source of packets to a pod and the destination of those from it; ports are those of the destination
abbrev pub allow_rule : PolicyType → AskedSide → Option Proto → List PortSpec → Rule
allow_rule Ingress asked proto ports = rule_of asked.never proto asked.side (with_ports open_side ports)
allow_rule Egress asked proto ports = rule_of asked.never proto open_side (with_ports asked.side ports)

-- ---- ports

abbrev pub is_of : Protocol → PortEntry → Bool
is_of p e = nat_eq (number_of e.protocol) (number_of p)

-- The ports of the entries of this protocol, behind those that are there. One without a port asks for all ports, so then none is listed.
abbrev pub ports_from : Protocol → List PortSpec → List PortEntry → List PortSpec
ports_from p ports [] = ports
ports_from p ports (e ∷ es) =
    elim (is_of p e) [
      | true ↦ elim e.port [ None ↦ [] | Some x ↦ ports_from p (ports ++ x ∷ []) es ]
      | false ↦ ports_from p ports es
    ]

abbrev pub ports_of : Protocol → List PortEntry → List PortSpec
ports_of p es = ports_from p [] es

abbrev pub proto_of : Protocol → Proto
proto_of p = record { 0 = number_of p }

-- ---- from one rule to many

-- a rule for a protocol that some entry has
abbrev pub protocol_rules : PolicyType → List ℕ → List PortEntry → Option Peer → Protocol → List Rule
protocol_rules d ns es peer p =
    if list_any (is_of p) es then allow_rule d (asked_side ns peer) (Some (proto_of p)) (ports_of p es) ∷ [] else []

-- without entries a rule for all protocols
abbrev pub peer_rules : PolicyType → List ℕ → List PortEntry → Option Peer → List Rule
peer_rules d ns [] peer = allow_rule d (asked_side ns peer) None [] ∷ []
peer_rules d ns (e ∷ es) peer =
    protocol_rules d ns (e ∷ es) peer Tcp ++ (protocol_rules d ns (e ∷ es) peer Udp ++ protocol_rules d ns (e ∷ es) peer Sctp)

-- without peers the other end may be any
abbrev pub rules_of_peers : PolicyType → List ℕ → List PortEntry → List Peer → List Rule
rules_of_peers d ns es [] = peer_rules d ns es None
rules_of_peers d ns es (p ∷ ps) = flat_map (λ q. peer_rules d ns es (Some q)) (p ∷ ps)

abbrev pub converted_rule : PolicyType → List ℕ → PolicyRule → List Rule
converted_rule d ns r = rules_of_peers d ns r.ports r.peers

abbrev pub converted_rules : PolicyType → List ℕ → List PolicyRule → List Rule
converted_rules d ns rs = flat_map (converted_rule d ns) rs

-- ---- a policy

-- The rules of a direction that is off are dropped.
abbrev pub converted_policy : List ℕ → NetworkPolicy → Policy
converted_policy ns p = record {
  tier = codes "default";
  order = Some (pos 1000);
  selector = policy_tree ns p.pods;
  on_ingress = p.on_ingress;
  on_egress = p.on_egress;
  ingress = kept p.on_ingress (converted_rules Ingress ns p.ingress);
  egress = kept p.on_egress (converted_rules Egress ns p.egress);
}
