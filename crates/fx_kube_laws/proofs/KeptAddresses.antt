-- The endpoints that selectors select and that have an address or a port are the pods of the cluster that have it.
use Rattle.std.proofs.Common.{◌≡◌, ℕ, Bool, true, ◌&&◌, ◌||◌, List, [], ◌∷◌, ◌++◌, map, refl, ap, ◌∙◌}
use Rattle.std.specs.Prelude.{nat_eq}
use Rattle.std.specs.List.{list_any, AllByRecursion}
use Rattle.std.proofs.Math.Nat.{div-one}
use Rattle.std.proofs.lemmas.List.{append-nil}
use Rattle.fx_base.specs.Nets.{host}
use Rattle.fx_base.specs.declared.net.Ipv4.{Ipv4}
use Rattle.fx_selector.specs.Tree.{all}
use Rattle.fx_selector.specs.Truth.{holds}
use Rattle.fx_model.specs.declared.ids.ItemKey.{ItemKey}
use Rattle.fx_model.specs.declared.ids.ItemKey.TheVariants as item_key
use Rattle.fx_model.specs.declared.policy.NetSet.{NetSet}
use Rattle.fx_model.specs.declared.resources.Endpoint.{Endpoint}
use Rattle.fx_model.specs.declared.resources.Item.{Item}
use Rattle.fx_model.specs.declared.resources.Item.TheVariants as item
use Rattle.fx_model.specs.declared.resources.Resources.{Resources}
use Rattle.fx_model.specs.Criteria.{in_net, lies_in}
use Rattle.fx_model.specs.Labels.{labels_of}
use Rattle.fx_model.specs.Policy.{selects_address, named_port_holds}
use Rattle.fx_model.specs.Policy as policy
use Rattle.fx_model.specs.Resources.{items_of}
use Rattle.fx_model.specs.Sets.{item_nets}
use Rattle.fx_k8s.specs.Clusters.{endpoint_of, endpoint_entry, IsConverted, IsPodOf, IsPlain, asks_plainly_given}
use Rattle.fx_k8s.specs.Conversion.{peer_tree}
use Rattle.fx_k8s.specs.KubeVerdict.{Pod, Cluster, is_peer, has_address, has_port}
use Rattle.fx_k8s.specs.declared.peers.PodPeer.{PodPeer}
use Rattle.fx_kube_laws.proofs.Chain.{labels_among, AddressesAreTheSame, PortsOfPeersAreTheSame, PortsOfAllAreTheSame}
use Rattle.fx_kube_laws.proofs.Lists.{any-map, any-same, each}
use Rattle.fx_kube_laws.proofs.KeptLabels.{labels_are_kept}
use Rattle.fx_kube_laws.proofs.KeptSelectors.{peers_are_the_same}

-- ---- one address

host-holds : (x : ℕ) (a : Ipv4) → in_net (host a) x ≡ nat_eq x a.0
host-holds x a = λ i. nat_eq (div-one x i) (div-one a.0 i)

addresses-hold : (x : ℕ) (xs : List Ipv4) → lies_in (map host xs) x ≡ list_any (λ a. nat_eq x a.0) xs
addresses-hold x [] = refl
addresses-hold x (a ∷ xs) = (λ i. host-holds x a i || addresses-hold x xs i)

-- ---- the items

abbrev pod_item : Pod → ItemKey × Item
pod_item pod = (item_key.Endpoint pod.ns pod.name, item.Endpoint (endpoint_of pod))

map-map : (pods : List Pod) → map (λ (x : ItemKey × Endpoint). (x.0, item.Endpoint x.1)) (map endpoint_entry pods) ≡ map pod_item pods
map-map [] = refl
map-map (p ∷ ps) = ap (λ (l : List (ItemKey × Item)). pod_item p ∷ l) (map-map ps)

module _ (K : Cluster) (R : Resources) (converted : IsConverted K R) where
  pub items_are : items_of R ≡ map pod_item K.pods
  items_are =
      (λ i. map (λ (x : ItemKey × Endpoint). (x.0, item.Endpoint x.1)) (converted.endpoints i) ++ map (λ (x : ItemKey × NetSet). (x.0, item.NetSet x.1)) (converted.net_sets i))
      ∙ append-nil (map (λ (x : ItemKey × Endpoint). (x.0, item.Endpoint x.1)) (map endpoint_entry K.pods))
      ∙ map-map K.pods

  -- a test of items is one of pods
  pub any-item : (test : ItemKey × Item → Bool) → list_any test (items_of R) ≡ list_any (λ pod. test (pod_item pod)) K.pods
  any-item test = ap (list_any test) items_are ∙ any-map test pod_item K.pods

-- ---- the pods of a peer

module _ (K : Cluster) (R : Resources) (ns : List ℕ) (p : PodPeer) (converted : IsConverted K R) (plain : IsPlain K) (asks : asks_plainly_given p.pods ≡ true) where
  abbrev IsSame : Pod → Type 0
  IsSame pod = holds (peer_tree ns p) (labels_among R pod) ≡ is_peer K ns p pod

  pub same_pods : AllByRecursion IsSame K.pods
  same_pods = each (IsPodOf K) IsSame (λ pod is. peers_are_the_same K R pod ns p is (labels_are_kept K R pod converted is) asks) K.pods plain.pods

pub addresses_are_the_same : AddressesAreTheSame
addresses_are_the_same K R ns p x converted plain asks =
    any-item K R converted (λ i. holds (peer_tree ns p) (labels_of R i) && lies_in (item_nets i.1) x)
    ∙ any-same (λ pod. holds (peer_tree ns p) (labels_among R pod) && lies_in (map host pod.addresses) x) (λ pod. is_peer K ns p pod && has_address x pod) K.pods
    (each (IsSame K R ns p converted plain asks) (λ pod. (holds (peer_tree ns p) (labels_among R pod) && lies_in (map host pod.addresses) x) ≡ (is_peer K ns p pod && has_address x pod)) (λ pod same i. same i && addresses-hold x pod.addresses i) K.pods (same_pods K R ns p converted plain asks))

pub ports_of_peers_are_the_same : PortsOfPeersAreTheSame
ports_of_peers_are_the_same K R ns p name a converted plain asks =
    any-item K R converted (λ i. holds (peer_tree ns p) (labels_of R i) && policy.has_port name a.proto.0 a.dst.0 a.dport i.1)
    ∙ any-same (λ pod. holds (peer_tree ns p) (labels_among R pod) && has_port name a pod) (λ pod. is_peer K ns p pod && has_port name a pod) K.pods
    (each (IsSame K R ns p converted plain asks) (λ pod. (holds (peer_tree ns p) (labels_among R pod) && has_port name a pod) ≡ (is_peer K ns p pod && has_port name a pod)) (λ pod same i. same i && has_port name a pod) K.pods (same_pods K R ns p converted plain asks))

pub ports_of_all_are_the_same : PortsOfAllAreTheSame
ports_of_all_are_the_same K R name a converted =
    any-item K R converted (λ i. holds all (labels_of R i) && policy.has_port name a.proto.0 a.dst.0 a.dport i.1)
