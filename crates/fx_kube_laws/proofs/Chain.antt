-- The steps from what Kubernetes says of a cluster to what the policy reference says of the resources that the cluster becomes, by
-- Kubernetes' API reference (`networking.k8s.io/v1`) and Calico's resource reference (`projectcalico.org/v3`): labels, selectors, the
-- addresses and ports of pods, rules, policies, and the verdict at a pod.
use Rattle.std.specs.Prelude.{◌≡◌, ℕ, List, ◌++◌, Bool, true, false, ◌&&◌, Option, Some, None, codes}
use Rattle.std.specs.List.{list_any, list_all}
use Rattle.std.specs.Str.{bytes_eq}
use Rattle.std.specs.FinMap as maps
use Rattle.fx_selector.specs.Truth.{LabelMap, holds}
use Rattle.fx_model.specs.declared.packet.Packet.{Packet}
use Rattle.fx_model.specs.declared.packet.Verdict.{Verdict}
use Rattle.fx_model.specs.declared.packet.Verdict.TheVariants.{Allow, Deny}
use Rattle.fx_model.specs.declared.resources.Endpoint.{Endpoint}
use Rattle.fx_model.specs.declared.resources.Resources.{Resources}
use Rattle.fx_model.specs.Active.{applies}
use Rattle.fx_model.specs.Directions.{Direction, Ingress, Egress}
use Rattle.fx_model.specs.Labels.{effective_labels, of_endpoint}
use Rattle.fx_model.specs.Policy.{selects_address, named_port_holds, rule_matches, endpoint_verdict, endpoint_at}
use Rattle.fx_fields.specs.declared.names.NamespacedName.{NamespacedName}
use Rattle.fx_fields.specs.declared.policy_fields.PolicyType.{PolicyType}
use Rattle.fx_fields.specs.declared.policy_fields.PolicyType.TheVariants as listed
use Rattle.fx_k8s.specs.declared.label_selectors.LabelSelector.{LabelSelector}
use Rattle.fx_k8s.specs.declared.peers.PodPeer.{PodPeer}
use Rattle.fx_k8s.specs.declared.policies.NetworkPolicy.{NetworkPolicy}
use Rattle.fx_k8s.specs.declared.policy_rules.PolicyRule.{PolicyRule}
use Rattle.fx_k8s.specs.KubeVerdict.{Pod, Cluster, selects, namespace_labels, is_peer, has_address, has_port, rule_allows, isolates, pod_takes, pod_on}
use Rattle.fx_k8s.specs.Conversion.{selector_trees, policy_tree, peer_tree, converted_rule, converted_policy}
use Rattle.fx_k8s.specs.Clusters.{endpoint_of, IsConverted, IsPodOf, IsPlain, is_plain_key, asks_plainly, asks_plainly_given, is_plain_rule}

-- ---- labels

-- a pod's labels among the resources
abbrev pub labels_among : Resources → Pod → LabelMap
labels_among R pod = effective_labels R (of_endpoint (endpoint_of pod))

-- what a pod's labels and those of its namespace are there
pub record HasLabels (K : Cluster) (R : Resources) (pod : Pod) : Type 0 where
  pub given : (k : List ℕ) → is_plain_key k ≡ true → maps.get (labels_among R pod) k ≡ maps.get pod.labels k
  pub namespace : maps.get (labels_among R pod) (codes "projectcalico.org/namespace") ≡ Some pod.ns
  pub orchestrator : maps.get (labels_among R pod) (codes "projectcalico.org/orchestrator") ≡ Some (codes "k8s")
  pub inherited : (m : LabelMap) → namespace_labels K pod.ns ≡ Some m → (k : List ℕ) → maps.get (labels_among R pod) (codes "pcns." ++ k) ≡ maps.get m k

abbrev pub LabelsAreKept : Type 0
LabelsAreKept = (K : Cluster) (R : Resources) (pod : Pod) → IsConverted K R → IsPodOf K pod → HasLabels K R pod

-- ---- selectors

abbrev pub SelectorsAreKept : Type 0
SelectorsAreKept =
    (s : LabelSelector) (m n : LabelMap) → asks_plainly s ≡ true → ((k : List ℕ) → is_plain_key k ≡ true → maps.get n k ≡ maps.get m k)
    → list_all (λ t. holds t n) (selector_trees s) ≡ selects s m

-- a pod that a policy selects in its namespace
abbrev pub PoliciesSelectTheSame : Type 0
PoliciesSelectTheSame =
    (K : Cluster) (R : Resources) (pod : Pod) (ns : List ℕ) (s : LabelSelector) → HasLabels K R pod → asks_plainly s ≡ true
    → holds (policy_tree ns s) (labels_among R pod) ≡ (selects s pod.labels && bytes_eq pod.ns ns)

-- a pod of a peer
abbrev pub PeersAreTheSame : Type 0
PeersAreTheSame =
    (K : Cluster) (R : Resources) (pod : Pod) (ns : List ℕ) (p : PodPeer) → IsPodOf K pod → HasLabels K R pod → asks_plainly_given p.pods ≡ true
    → holds (peer_tree ns p) (labels_among R pod) ≡ is_peer K ns p pod

-- ---- addresses and ports

abbrev pub AddressesAreTheSame : Type 0
AddressesAreTheSame =
    (K : Cluster) (R : Resources) (ns : List ℕ) (p : PodPeer) (x : ℕ) → IsConverted K R → IsPlain K → asks_plainly_given p.pods ≡ true
    → selects_address R (peer_tree ns p) x ≡ list_any (λ pod. is_peer K ns p pod && has_address x pod) K.pods

abbrev pub PortsOfPeersAreTheSame : Type 0
PortsOfPeersAreTheSame =
    (K : Cluster) (R : Resources) (ns : List ℕ) (p : PodPeer) (name : List ℕ) (a : Packet) → IsConverted K R → IsPlain K → asks_plainly_given p.pods ≡ true
    → named_port_holds R (Some (peer_tree ns p)) name a.proto.0 a.dst.0 a.dport ≡ list_any (λ pod. is_peer K ns p pod && has_port name a pod) K.pods

abbrev pub PortsOfAllAreTheSame : Type 0
PortsOfAllAreTheSame =
    (K : Cluster) (R : Resources) (name : List ℕ) (a : Packet) → IsConverted K R
    → named_port_holds R None name a.proto.0 a.dst.0 a.dport ≡ list_any (λ pod. true && has_port name a pod) K.pods

-- ---- rules

abbrev pub direction_of : PolicyType → Direction
direction_of listed.Ingress = Ingress
direction_of listed.Egress = Egress

-- some rule that is made of one matches where the one allows
abbrev pub RulesAreKept : Type 0
RulesAreKept =
    (K : Cluster) (R : Resources) (ns : List ℕ) (t : PolicyType) (a : Packet) (r : PolicyRule) → IsConverted K R → IsPlain K → is_plain_rule r ≡ true
    → list_any (λ q. rule_matches R q a) (converted_rule t ns r) ≡ rule_allows K ns (direction_of t) a r

-- ---- policies

abbrev pub PoliciesApplyToTheSame : Type 0
PoliciesApplyToTheSame =
    (K : Cluster) (R : Resources) (d : Direction) (pod : Pod) (x : NamespacedName × NetworkPolicy) → HasLabels K R pod → asks_plainly x.1.pods ≡ true
    → applies R d (converted_policy x.0.ns x.1) (endpoint_of pod) ≡ isolates d pod x

-- ---- at a pod

abbrev pub verdict_if : Bool → Verdict
verdict_if b = elim b [ true ↦ Allow | false ↦ Deny ]

abbrev pub PodsAreKept : Type 0
PodsAreKept =
    (K : Cluster) (R : Resources) (d : Direction) (pod : Pod) (a : Packet) → IsConverted K R → IsPlain K → IsPodOf K pod
    → (endpoint_verdict R d (endpoint_of pod) a).verdict ≡ verdict_if (pod_takes K d pod a)

-- the endpoint on an interface is the pod there
abbrev pub on_interface : Option Pod → Option Endpoint
on_interface None = None
on_interface (Some pod) = Some (endpoint_of pod)

abbrev pub InterfacesAreKept : Type 0
InterfacesAreKept = (K : Cluster) (R : Resources) (iface : List ℕ) → IsConverted K R → endpoint_at R iface ≡ on_interface (pod_on K iface)
