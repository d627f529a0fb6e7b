-- What Kubernetes says of the first packet of a connection between pods, from Kubernetes' API reference (`networking.k8s.io/v1`
-- NetworkPolicy, `v1` Namespace and ServiceAccount, `meta/v1` LabelSelector). A pod that no policy of its namespace selects for a
-- direction takes all packets of that direction, and one that some policy selects takes those that a rule of such a policy allows.
-- This knows only pods, namespaces and policies as they are written.
use Rattle.std.specs.Prelude.{ℕ, List, [], ◌∷◌, Bool, true, false, not, ◌&&◌, ◌||◌, nat_eq, if◌then◌else◌, Option, Some, None, is_some}
use Rattle.std.specs.List.{list_any, list_all}
use Rattle.std.specs.Option.{option_map_or}
use Rattle.std.specs.Str.{bytes_eq}
use Rattle.std.specs.FinMap as maps
use Rattle.fx_base.specs.declared.net.Ipv4.{Ipv4}
use Rattle.fx_base.specs.declared.net.NetText.{NetText}
use Rattle.fx_base.specs.declared.net.NetText.TheVariants.{V4, V6}
use Rattle.fx_selector.specs.Truth.{LabelMap}
use Rattle.fx_model.specs.declared.packet.Packet.{Packet}
use Rattle.fx_model.specs.declared.packet.Verdict.{Verdict}
use Rattle.fx_model.specs.declared.packet.Verdict.TheVariants.{Allow, Deny}
use Rattle.fx_model.specs.declared.resources.EndpointPort.{EndpointPort}
use Rattle.fx_model.specs.declared.rules.PortSpec.{PortSpec}
use Rattle.fx_model.specs.declared.rules.PortSpec.TheVariants.{Number, Named}
use Rattle.fx_model.specs.Criteria.{in_net, in_range}
use Rattle.fx_model.specs.Directions.{Direction, Ingress, Egress}
use Rattle.fx_model.specs.Policy.{is_workload}
use Rattle.fx_fields.specs.declared.names.NamespacedName.{NamespacedName}
use Rattle.fx_k8s.specs.declared.entries.PortEntry.{PortEntry}
use Rattle.fx_k8s.specs.declared.expressions.Expression.{Expression}
use Rattle.fx_k8s.specs.declared.expressions.Expression.TheVariants.{In, NotIn, Exists, DoesNotExist}
use Rattle.fx_k8s.specs.declared.label_selectors.LabelPair.{LabelPair}
use Rattle.fx_k8s.specs.declared.label_selectors.LabelSelector.{LabelSelector}
use Rattle.fx_k8s.specs.declared.peers.IpBlock.{IpBlock}
use Rattle.fx_k8s.specs.declared.peers.Peer.{Peer}
use Rattle.fx_k8s.specs.declared.peers.Peer.TheVariants.{Block, Pods}
use Rattle.fx_k8s.specs.declared.peers.PodPeer.{PodPeer}
use Rattle.fx_k8s.specs.declared.policies.NetworkPolicy.{NetworkPolicy}
use Rattle.fx_k8s.specs.declared.policy_rules.PolicyRule.{PolicyRule}
use Rattle.fx_k8s.specs.Entries.{number_of}

-- ---- a cluster

-- a pod: where it runs, its labels as they are given, its addresses and its named ports; and what runs it and which profiles it
-- lists where it is an endpoint of Calico
pub record Pod : Type 0 where
  pub ns : List ℕ
  pub name : List ℕ
  pub node : List ℕ
  pub iface : List ℕ
  pub labels : LabelMap
  pub account : Option (List ℕ)
  pub orchestrator : Option (List ℕ)
  pub addresses : List Ipv4
  pub profiles : List (List ℕ)
  pub ports : List EndpointPort

-- a node's name and what the cluster has: namespaces and service accounts with their labels, policies, and pods
pub record Cluster : Type 0 where
  pub node : List ℕ
  pub namespaces : List (List ℕ × LabelMap)
  pub accounts : List (NamespacedName × LabelMap)
  pub policies : List (NamespacedName × NetworkPolicy)
  pub pods : List Pod

-- ---- label selectors

abbrev pub pair_holds : LabelMap → LabelPair → Bool
pair_holds m p = option_map_or (λ x. bytes_eq x p.value) (maps.get m p.key) false

abbrev pub is_listed : List (List ℕ) → List ℕ → Bool
is_listed vs x = list_any (λ v. bytes_eq v x) vs

-- a label that is absent is in no list
abbrev pub expression_holds : LabelMap → Expression → Bool
expression_holds m (In k vs) = option_map_or (is_listed vs) (maps.get m k) false
expression_holds m (NotIn k vs) = option_map_or (λ x. not (is_listed vs x)) (maps.get m k) true
expression_holds m (Exists k) = is_some (maps.get m k)
expression_holds m (DoesNotExist k) = not (is_some (maps.get m k))

-- all that is asked holds
abbrev pub selects : LabelSelector → LabelMap → Bool
selects s m = list_all (pair_holds m) s.labels && list_all (expression_holds m) s.expressions

abbrev pub selects_given : Option LabelSelector → LabelMap → Bool
selects_given None m = true
selects_given (Some s) m = selects s m

-- ---- the pods of a peer

-- the labels of a namespace, if there is one of this name
abbrev pub labels_in : List (List ℕ × LabelMap) → List ℕ → Option LabelMap
labels_in [] name = None
labels_in (n ∷ ns) name = if bytes_eq n.0 name then Some n.1 else labels_in ns name

abbrev pub namespace_labels : Cluster → List ℕ → Option LabelMap
namespace_labels K name = labels_in K.namespaces name

-- Where no namespaces are selected, the policy's own is meant.
abbrev pub in_namespaces : Cluster → List ℕ → Option LabelSelector → List ℕ → Bool
in_namespaces K own None ns = bytes_eq ns own
in_namespaces K own (Some s) ns = option_map_or (selects s) (namespace_labels K ns) false

-- by its own labels and those of its namespace
abbrev pub is_peer : Cluster → List ℕ → PodPeer → Pod → Bool
is_peer K own p pod = selects_given p.pods pod.labels && in_namespaces K own p.namespaces pod.ns

abbrev pub has_address : ℕ → Pod → Bool
has_address x pod = list_any (λ a. nat_eq x a.0) pod.addresses

-- ---- peers

abbrev pub contains : NetText → ℕ → Bool
contains (V4 n) x = in_net n x
contains V6 x = false

abbrev pub block_holds : IpBlock → ℕ → Bool
block_holds b x = contains b.cidr x && not (list_any (λ n. in_net n x) b.except)

-- the other end has an address of the block, or is a pod that is selected
abbrev pub peer_holds : Cluster → List ℕ → ℕ → Peer → Bool
peer_holds K own x (Block b) = block_holds b x
peer_holds K own x (Pods p) = list_any (λ pod. is_peer K own p pod && has_address x pod) K.pods

-- the address of the other end, seen from the pod
abbrev pub other_address : Direction → Packet → ℕ
other_address Ingress a = a.src.0
other_address Egress a = a.dst.0

-- ---- ports

-- the pod is where the packet goes, to its port of this name and of the packet's protocol
abbrev pub has_port : List ℕ → Packet → Pod → Bool
has_port name a pod =
    has_address a.dst.0 pod && list_any (λ q. nat_eq q.proto.0 a.proto.0 && (bytes_eq q.name name && nat_eq a.dport q.number)) pod.ports

-- The pods whose ports' names are meant: for packets to the selected pods of a peer those, and else all.
abbrev pub is_meant : Cluster → List ℕ → Direction → Option Peer → Pod → Bool
is_meant K own Ingress peer pod = true
is_meant K own Egress None pod = true
is_meant K own Egress (Some (Block b)) pod = true
is_meant K own Egress (Some (Pods p)) pod = is_peer K own p pod

abbrev pub port_holds : Cluster → List ℕ → Direction → Option Peer → Packet → Option PortSpec → Bool
port_holds K own d peer a None = true
port_holds K own d peer a (Some (Number r)) = in_range r a.dport
port_holds K own d peer a (Some (Named name)) = list_any (λ pod. is_meant K own d peer pod && has_port name a pod) K.pods

abbrev pub entry_holds : Cluster → List ℕ → Direction → Option Peer → Packet → PortEntry → Bool
entry_holds K own d peer a e = nat_eq a.proto.0 (number_of e.protocol) && port_holds K own d peer a e.port

-- some entry holds, if there are entries
abbrev pub some_entry : Cluster → List ℕ → Direction → Option Peer → Packet → List PortEntry → Bool
some_entry K own d peer a [] = true
some_entry K own d peer a (e ∷ es) = list_any (entry_holds K own d peer a) (e ∷ es)

-- ---- rules

-- some peer holds, if there are peers, and some entry with it
abbrev pub some_peer : Cluster → List ℕ → Direction → Packet → List PortEntry → List Peer → Bool
some_peer K own d a es [] = some_entry K own d None a es
some_peer K own d a es (p ∷ ps) =
    list_any (λ q. peer_holds K own (other_address d a) q && some_entry K own d (Some q) a es) (p ∷ ps)

abbrev pub rule_allows : Cluster → List ℕ → Direction → Packet → PolicyRule → Bool
rule_allows K own d a r = some_peer K own d a r.ports r.peers

-- ---- policies

abbrev pub is_on : Direction → NetworkPolicy → Bool
is_on Ingress p = p.on_ingress
is_on Egress p = p.on_egress

abbrev pub rules_of : Direction → NetworkPolicy → List PolicyRule
rules_of Ingress p = p.ingress
rules_of Egress p = p.egress

-- a policy of the pod's namespace, and of the direction, that selects the pod
abbrev pub isolates : Direction → Pod → NamespacedName × NetworkPolicy → Bool
isolates d pod x = bytes_eq pod.ns x.0.ns && (is_on d x.1 && selects x.1.pods pod.labels)

abbrev pub is_isolated : Cluster → Direction → Pod → Bool
is_isolated K d pod = list_any (isolates d pod) K.policies

abbrev pub is_allowed : Cluster → Direction → Pod → Packet → Bool
is_allowed K d pod a = list_any (λ x. isolates d pod x && list_any (rule_allows K x.0.ns d a) (rules_of d x.1)) K.policies

abbrev pub pod_takes : Cluster → Direction → Pod → Packet → Bool
pod_takes K d pod a = not (is_isolated K d pod) || is_allowed K d pod a

-- ---- a packet

-- the pod of this node on an interface
abbrev pub first_on : List Pod → List ℕ → List ℕ → Option Pod
first_on [] node iface = None
first_on (p ∷ ps) node iface = if bytes_eq p.node node && bytes_eq iface p.iface then Some p else first_on ps node iface

abbrev pub pod_on : Cluster → List ℕ → Option Pod
pod_on K iface = first_on K.pods K.node iface

-- A workload's interface without a pod takes nothing, and an interface of something else is free.
abbrev pub side_takes : Cluster → Direction → Packet → List ℕ → Option Pod → Bool
side_takes K d a iface (Some pod) = pod_takes K d pod a
side_takes K d a iface None = not (is_workload iface)

abbrev pub takes : Cluster → Packet → Bool
takes K a =
    side_takes K Egress a a.iface_in (pod_on K a.iface_in) && side_takes K Ingress a a.iface_out (pod_on K a.iface_out)

-- a packet in state NEW: the pod that sends it has to take it, and so has the pod that it goes to
abbrev pub kubernetes_verdict : Cluster → Packet → Verdict
kubernetes_verdict K a = if takes K a then Allow else Deny
