-- The resources that a cluster of Kubernetes becomes, as Calico's resource reference (`projectcalico.org/v3`) has them, and what has to
-- hold of the cluster so that both say the same of each packet.
use Rattle.std.specs.Prelude.{◌≡◌, ℕ, List, [], ◌∷◌, ◌++◌, map, Bool, true, false, not, ◌&&◌, ◌||◌, nat_eq, Option, Some, None, is_some, codes}
use Rattle.std.specs.List.{list_all, starts_with, AllByRecursion}
use Rattle.std.specs.Str.{bytes_eq}
use Rattle.std.specs.FinMap as maps
use Rattle.fx_selector.specs.Truth.{LabelMap}
use Rattle.fx_model.specs.declared.ids.ItemKey.{ItemKey}
use Rattle.fx_model.specs.declared.ids.ItemKey.TheVariants as item_key
use Rattle.fx_model.specs.declared.ids.PolicyId.{PolicyId}
use Rattle.fx_model.specs.declared.ids.PolicyId.TheVariants.{Kube}
use Rattle.fx_model.specs.declared.packet.Packet.{Packet}
use Rattle.fx_model.specs.declared.policy.Policy.{Policy}
use Rattle.fx_model.specs.declared.resources.Endpoint.{Endpoint}
use Rattle.fx_model.specs.declared.resources.Profile.{Profile}
use Rattle.fx_model.specs.declared.resources.Resources.{Resources}
use Rattle.fx_model.specs.Policy.{packet_verdict}
use Rattle.fx_fields.specs.declared.names.NamespacedName.{NamespacedName}
use Rattle.fx_fields.specs.Labels.{own_labels}
use Rattle.fx_json.specs.Kubernetes as kubernetes
use Rattle.fx_k8s.specs.declared.expressions.Expression.{Expression}
use Rattle.fx_k8s.specs.declared.expressions.Expression.TheVariants.{In, NotIn, Exists, DoesNotExist}
use Rattle.fx_k8s.specs.declared.label_selectors.LabelSelector.{LabelSelector}
use Rattle.fx_k8s.specs.declared.peers.Peer.{Peer}
use Rattle.fx_k8s.specs.declared.peers.Peer.TheVariants.{Block, Pods}
use Rattle.fx_k8s.specs.declared.policies.NetworkPolicy.{NetworkPolicy}
use Rattle.fx_k8s.specs.declared.policy_rules.PolicyRule.{PolicyRule}
use Rattle.fx_k8s.specs.Conversion.{converted_policy}
use Rattle.fx_k8s.specs.Profiles.{namespace_profile, account_profile}
use Rattle.fx_k8s.specs.KubeVerdict.{Pod, Cluster, namespace_labels, kubernetes_verdict}

-- ---- what each becomes

-- a pod is an endpoint of its namespace
abbrev pub endpoint_of : Pod → Endpoint
endpoint_of pod = record {
  node = pod.node;
  iface = pod.iface;
  labels = own_labels pod.labels pod.ns pod.account pod.orchestrator;
  addresses = pod.addresses;
  profiles = pod.profiles;
  ports = pod.ports;
}

abbrev pub endpoint_entry : Pod → ItemKey × Endpoint
endpoint_entry pod = (item_key.Endpoint pod.ns pod.name, endpoint_of pod)

abbrev pub namespace_entry : List ℕ × LabelMap → List ℕ × Profile
namespace_entry x = (kubernetes.namespace_profile x.0, namespace_profile x.1)

abbrev pub account_entry : NamespacedName × LabelMap → List ℕ × Profile
account_entry x = (kubernetes.account_profile x.0, account_profile x.1)

abbrev pub policy_entry : NamespacedName × NetworkPolicy → PolicyId × Policy
policy_entry x = (Kube x.0.ns x.0.name, converted_policy x.0.ns x.1)

-- The resources are what the cluster's namespaces, accounts, policies and pods become, and no other, all in the order of their keys; and
-- they are in sync.
pub record IsConverted (K : Cluster) (R : Resources) : Type 0 where
  pub node : R.node ≡ K.node
  pub in_sync : R.in_sync ≡ true
  pub endpoints : maps.entries R.endpoints ≡ map endpoint_entry K.pods
  pub net_sets : maps.entries R.net_sets ≡ []
  pub profiles : maps.entries R.profiles ≡ map namespace_entry K.namespaces ++ map account_entry K.accounts
  pub tiers : maps.entries R.tiers ≡ []
  pub policies : maps.entries R.policies ≡ map policy_entry K.policies

-- ---- what has to hold of a cluster

-- a key that isn't one of those under which Calico keeps labels of namespaces and accounts, and its own
abbrev pub is_plain_key : List ℕ → Bool
is_plain_key k =
    not (starts_with nat_eq k (codes "pcns.") || (starts_with nat_eq k (codes "pcsa.") || starts_with nat_eq k (codes "projectcalico.org/")))

abbrev pub key_of : Expression → List ℕ
key_of (In k vs) = k
key_of (NotIn k vs) = k
key_of (Exists k) = k
key_of (DoesNotExist k) = k

abbrev pub asks_plainly : LabelSelector → Bool
asks_plainly s = list_all (λ p. is_plain_key p.key) s.labels && list_all (λ e. is_plain_key (key_of e)) s.expressions

abbrev pub asks_plainly_given : Option LabelSelector → Bool
asks_plainly_given None = true
asks_plainly_given (Some s) = asks_plainly s

-- selectors of namespaces may ask for any key
abbrev pub is_plain_peer : Peer → Bool
is_plain_peer (Block b) = true
is_plain_peer (Pods p) = asks_plainly_given p.pods

abbrev pub is_plain_rule : PolicyRule → Bool
is_plain_rule r = list_all is_plain_peer r.peers

abbrev pub is_plain_policy : NamespacedName × NetworkPolicy → Bool
is_plain_policy x = asks_plainly x.1.pods && (list_all is_plain_rule x.1.ingress && list_all is_plain_rule x.1.egress)

-- a namespace's profile comes first, and then those of accounts
abbrev pub begin_with : List ℕ → List (List ℕ) → Bool
begin_with ns [] = false
begin_with ns (p ∷ ps) = bytes_eq p (kubernetes.namespace_profile ns) && list_all (λ q. starts_with nat_eq q (codes "ksa.")) ps

abbrev pub lists_its_namespace : Pod → Bool
lists_its_namespace pod = begin_with pod.ns pod.profiles

pub record IsPodOf (K : Cluster) (pod : Pod) : Type 0 where
  pub orchestrator : pod.orchestrator ≡ Some (codes "k8s")
  pub profiles : lists_its_namespace pod ≡ true
  pub namespace : is_some (namespace_labels K pod.ns) ≡ true
  pub labels : list_all (λ e. is_plain_key e.0) (maps.entries pod.labels) ≡ true

-- Kubernetes runs each pod, whose namespace is there, and no pod has a label, and no selector of pods asks for one, that Calico keeps
-- for itself.
pub record IsPlain (K : Cluster) : Type 0 where
  pub pods : AllByRecursion (IsPodOf K) K.pods
  pub policies : list_all is_plain_policy K.policies ≡ true

-- ---- both say the same

-- the policy reference's verdict on the resources is Kubernetes' on the cluster
abbrev pub KubernetesVerdictIsKept : Type 0
KubernetesVerdictIsKept =
    (K : Cluster) (R : Resources) (a : Packet) → IsConverted K R → IsPlain K → (packet_verdict R a).verdict ≡ kubernetes_verdict K a
