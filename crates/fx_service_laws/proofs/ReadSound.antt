-- What is read of a resource, of a slice and of a delete is sound.
use Rattle.std.proofs.Common.{◌≡◌, ℕ, Bool, true, false, not, ◌&&◌, List, [], ◌∷◌, Option, Some, None, Result, Ok, Err, IfOk, refl, ap, subst}
use Rattle.std.specs.Prelude.{codes, is_none, is_some, if◌then◌else◌, IfSome}
use Rattle.std.specs.List.{list_all, filter_map}
use Rattle.std.specs.Str.{bytes_eq}
use Rattle.std.specs.FinMap as maps
use Rattle.std.proofs.lemmas.Bool.{false≢true}
use Rattle.serde_json.specs.Data.{Data}
use Rattle.serde_json.specs.Find.{as_array}
use Rattle.fx_base.specs.declared.net.Proto.{Proto}
use Rattle.fx_base.specs.Same.{same_bytes}
use Rattle.fx_selector.specs.Prefixed.{prefixed}
use Rattle.fx_selector.specs.Truth.{LabelMap}
use Rattle.fx_model.specs.Criteria.{has_ports}
use Rattle.fx_model.specs.declared.ids.Key.{Key}
use Rattle.fx_model.specs.declared.resources.Item.{Item}
use Rattle.fx_model.specs.declared.resources.Item.TheVariants as item
use Rattle.fx_model.specs.declared.resources.Update.{Update}
use Rattle.fx_model.specs.declared.resources.Update.TheVariants as update
use Rattle.fx_model.specs.Formed.{is_formed, is_formed_namespace}
use Rattle.fx_fields.specs.declared.fault.ReadFault.{ReadFault}
use Rattle.fx_fields.specs.declared.fault.ReadFault.TheVariants.{Unsupported}
use Rattle.fx_fields.specs.declared.kinds.Kind.{Kind}
use Rattle.fx_fields.specs.declared.kinds.Kind.TheVariants.{Profile as AProfile, WorkloadEndpoint, Tier as ATier, GlobalNetworkPolicy, NetworkPolicy, NetworkSet, GlobalNetworkSet}
use Rattle.fx_fields.specs.declared.kinds.KubernetesKind.{KubernetesKind}
use Rattle.fx_fields.specs.declared.kinds.KubernetesKind.TheVariants as kubernetes
use Rattle.fx_fields.specs.declared.metadata.Metadata.{Metadata}
use Rattle.fx_fields.specs.declared.rule_form.Services.TheVariants.{PassedOver}
use Rattle.fx_fields.specs.Fields.{field, formed, defaulted, optional, object_at, section, items_from}
use Rattle.fx_fields.specs.Forms.{is_namespace, passing}
use Rattle.fx_fields.specs.Kinds.{kind_of, kubernetes_kind}
use Rattle.fx_fields.specs.Labels.{labels_at}
use Rattle.fx_fields.specs.Metadata.{metadata_of, metadata_in, global_metadata_in}
use Rattle.fx_fields.specs.Names.{name_at, name_in, namespaced_name, namespaced_name_in}
use Rattle.fx_fields.specs.Paths.{member_path}
use Rattle.fx_fields.specs.Values.{whole, tcp, protocol_in}
use Rattle.fx_fields.proofs.NameTexts.{IsNamespaced, namespaced_name-if}
use Rattle.fx_fields.proofs.Readings.{then-if, read-if, at_member-if, formed-if, items_from-each, both, first_of, second_of}
use Rattle.fx_json.specs.Endpoints.{endpoint_in, endpoint_put}
use Rattle.fx_json.specs.Kubernetes.{kubernetes_key_of, kubernetes_key_in}
use Rattle.fx_json.specs.NetSets.{nets_in, net_set_put, global_set_put}
use Rattle.fx_json.specs.Policies.{tier_in, tier_put, global_policy_in, global_policy_put, namespaced_policy_in, namespaced_policy_put}
use Rattle.fx_json.specs.Ports.{port_protocol}
use Rattle.fx_json.specs.Resources.{profile_in, profile_put, put_of, resource_with, key_of, key_in, calico_delete, kubernetes_delete, delete_of}
use Rattle.fx_json.proofs.FormedResources.{delete_of-formed}
use Rattle.fx_k8s.specs.Policies.{policy_in, policy_put}
use Rattle.fx_k8s.specs.Profiles.{namespace_put, account_put}
use Rattle.fx_k8s.specs.Puts.{kubernetes_put, put_with}
use Rattle.fx_k8s.proofs.FormedPuts.{put_with-formed}
use Rattle.fx_kube_laws.proofs.Lists.{get-none}
use Rattle.fx_services.specs.declared.lowered.Resource.{Resource}
use Rattle.fx_services.specs.declared.slice_fields.SlicePort.{SlicePort}
use Rattle.fx_services.specs.declared.slices.Slice.{Slice}
use Rattle.fx_services.specs.Marks.{mark, star, is_marked, labels_path, unmarked, is_unmarked, is_unmarked_item, is_other_key, is_other_update}
use Rattle.fx_services.specs.SliceFields.{required_here, items_in, items_here, address_type, slice_addresses, with_number, port_fields, slice_port}
use Rattle.fx_services.specs.Slices.{slice_of}
use Rattle.fx_services.specs.Lowerable.{is_lowerable_update}
use Rattle.fx_services.specs.Reading.{read_resource}
use Rattle.fx_services.specs.Services.{no_services, resource_services}
use Rattle.fx_services.specs.Standing.{is_sound_slice, ReadUpdatesAreSound}
use Rattle.fx_services.proofs.LowResources.{IsLowerable, read_resource-low}
use Rattle.fx_services.proofs.ServiceTrees.{namespace_free}

-- ---- namespaces

-- `*` is no namespace
namespace-other : (s : List ℕ) → is_namespace s ≡ true → not (bytes_eq s star) ≡ true
namespace-other s e = by (bytes_eq s star) refl
  where
    by : (b : Bool) → bytes_eq s star ≡ b → not b ≡ true
    by true t = (let wrong : false ≡ true = subst (λ (q : List ℕ). is_namespace q ≡ true) (same_bytes s star t) e in absurd (false≢true wrong))
    by false t = refl

abbrev IsOfNamespace : Metadata → Type 0
IsOfNamespace m = is_namespace m.named.ns ≡ true

metadata_of-if : (path : List ℕ) (d : Data) → IfOk (metadata_of path d) IsOfNamespace
unfolding metadata_of
metadata_of-if path d =
    then-if IsOfNamespace (namespaced_name path d) _ (λ named named_read.
    then-if IsOfNamespace (labels_at path (codes "labels") d) _ (λ given _. read-if IsNamespaced (namespaced_name path d) named (namespaced_name-if path d) named_read))

metadata_in-if : (d : Data) → IfOk (metadata_in d) IsOfNamespace
unfolding metadata_in
metadata_in-if d =
    then-if IsOfNamespace (section (codes "metadata") (codes "metadata") d) _ (λ metadata _. metadata_of-if (codes "metadata") metadata)

-- ---- keys

abbrev other_key : Update → Bool
other_key update.InSync = true
other_key (update.Put k x) = is_other_key k
other_key (update.Delete k) = is_other_key k

abbrev HasOtherKey : Update → Type 0
HasOtherKey u = other_key u ≡ true

abbrev IsOtherKey : Key → Type 0
IsOtherKey k = is_other_key k ≡ true

endpoint-other : (d : Data) → IfOk (endpoint_put d) HasOtherKey
unfolding endpoint_put
endpoint-other d =
    then-if HasOtherKey (metadata_in d) _ (λ about about_read.
    then-if HasOtherKey (endpoint_in about.labels about.named.ns d) _ (λ endpoint _.
    namespace-other about.named.ns (read-if IsOfNamespace (metadata_in d) about (metadata_in-if d) about_read)))

profile-other : (d : Data) → IfOk (profile_put PassedOver d) HasOtherKey
unfolding profile_put
profile-other d = then-if HasOtherKey (name_in d) _ (λ name _. then-if HasOtherKey (profile_in PassedOver d) _ (λ profile _. refl))

tier-other : (d : Data) → IfOk (tier_put d) HasOtherKey
unfolding tier_put
tier-other d = then-if HasOtherKey (name_in d) _ (λ name _. then-if HasOtherKey (tier_in d) _ (λ tier _. refl))

global-other : (d : Data) → IfOk (global_policy_put PassedOver d) HasOtherKey
unfolding global_policy_put
global-other d =
    then-if HasOtherKey (name_in d) _ (λ name _. then-if HasOtherKey (global_policy_in PassedOver d) _ (λ policy _. refl))

namespaced-other : (d : Data) → IfOk (namespaced_policy_put PassedOver d) HasOtherKey
unfolding namespaced_policy_put
namespaced-other d =
    then-if HasOtherKey (namespaced_name_in d) _ (λ named _. then-if HasOtherKey (namespaced_policy_in PassedOver named.ns d) _ (λ policy _. refl))

net_set-other : (d : Data) → IfOk (net_set_put d) HasOtherKey
unfolding net_set_put
net_set-other d = then-if HasOtherKey (metadata_in d) _ (λ about _. then-if HasOtherKey (nets_in d) _ (λ nets _. refl))

global_set-other : (d : Data) → IfOk (global_set_put d) HasOtherKey
unfolding global_set_put
global_set-other d = then-if HasOtherKey (global_metadata_in d) _ (λ about _. then-if HasOtherKey (nets_in d) _ (λ nets _. refl))

kind-other : (kind : Kind) (d : Data) → IfOk (put_of PassedOver kind d) HasOtherKey
kind-other AProfile d = profile-other d
kind-other WorkloadEndpoint d = endpoint-other d
kind-other ATier d = tier-other d
kind-other GlobalNetworkPolicy d = global-other d
kind-other NetworkPolicy d = namespaced-other d
kind-other NetworkSet d = net_set-other d
kind-other GlobalNetworkSet d = global_set-other d

resource-other : (d : Data) → IfOk (resource_with PassedOver d) HasOtherKey
unfolding resource_with
resource-other d = then-if HasOtherKey (kind_of d) _ (λ kind _. kind-other kind d)

-- ---- resources of Kubernetes

abbrev unmarked_update : Update → Bool
unmarked_update update.InSync = true
unmarked_update (update.Put k x) = is_unmarked_item x
unmarked_update (update.Delete k) = true

-- another key, and no mark among the labels
abbrev IsOther : Update → Type 0
IsOther u = (other_key u ≡ true) × (unmarked_update u ≡ true)

none_is : {A : Type 0} (o : Option A) → o ≡ None → is_none o ≡ true
none_is o e = ap is_none e

-- labels under a prefix that the mark hasn't
prefixed-unmarked : (m : LabelMap) → is_unmarked (prefixed (codes "pcns.") m) ≡ true
prefixed-unmarked m = none_is (maps.get (prefixed (codes "pcns.") m) mark) (get-none (codes "pcns.") m mark refl)

prefixed_account-unmarked : (m : LabelMap) → is_unmarked (prefixed (codes "pcsa.") m) ≡ true
prefixed_account-unmarked m = none_is (maps.get (prefixed (codes "pcsa.") m) mark) (get-none (codes "pcsa.") m mark refl)

namespace_put-other : (d : Data) → IfOk (namespace_put d) IsOther
unfolding namespace_put
namespace_put-other d = then-if IsOther (global_metadata_in d) _ (λ about _. (refl, prefixed-unmarked about.labels))

account-other : (d : Data) → IfOk (account_put d) IsOther
unfolding account_put
account-other d = then-if IsOther (metadata_in d) _ (λ about _. (refl, prefixed_account-unmarked about.labels))

policy-other : (d : Data) → IfOk (policy_put d) IsOther
unfolding policy_put
policy-other d =
    then-if IsOther (namespaced_name_in d) _ (λ named _. then-if IsOther (policy_in d) _ (λ policy _. (refl, refl)))

kubernetes-other : (kind : KubernetesKind) (d : Data) → IfOk (kubernetes_put kind d) IsOther
kubernetes-other kubernetes.Namespace d = namespace_put-other d
kubernetes-other kubernetes.ServiceAccount d = account-other d
kubernetes-other kubernetes.NetworkPolicy d = policy-other d

-- ---- the test of labels

not_some : (o : Option (List ℕ)) → is_some o ≡ false → is_none o ≡ true
not_some None e = refl
not_some (Some x) e = cc

item-unmarked : (x : Item) → is_marked None x ≡ false → is_unmarked_item x ≡ true
item-unmarked (item.Endpoint e) h = not_some (maps.get e.labels mark) h
item-unmarked (item.Profile p) h = not_some (maps.get p.labels mark) h
item-unmarked (item.Tier t) h = refl
item-unmarked (item.Policy p) h = refl
item-unmarked (item.NetSet s) h = not_some (maps.get s.labels mark) h

-- what passes the test has no mark
tested-unmarked : (u : Update) (x : Unit {0}) → unmarked None u ≡ Ok x → unmarked_update u ≡ true
tested-unmarked update.InSync x e = refl
tested-unmarked (update.Put k i) x e = by (is_marked None i) refl e
  where
    by : (b : Bool) → is_marked None i ≡ b → (if b then Err (Unsupported (labels_path None i)) else Ok tt) ≡ Ok x → is_unmarked_item i ≡ true
    by true t h = cc
    by false t h = item-unmarked i t
tested-unmarked (update.Delete k) x e = refl

-- ---- a resource that is put

put-other : (d : Data) (plain : Update) (x : Unit {0}) → put_with PassedOver d ≡ Ok plain → unmarked (kubernetes_kind d) plain ≡ Ok x → IsOther plain
unfolding put_with
put-other d plain x = by (kubernetes_kind d)
  where
    by : (o : Option KubernetesKind) → ◌≡◌ {A = Result Update ReadFault} (elim o [ Some kind ↦ kubernetes_put kind d | None ↦ resource_with PassedOver d ]) (Ok plain) → unmarked o plain ≡ Ok x → IsOther plain
    by (Some kind) e h = read-if IsOther (kubernetes_put kind d) plain (kubernetes-other kind d) e
    by None e h = (read-if HasOtherKey (resource_with PassedOver d) plain (resource-other d) e, tested-unmarked plain x h)

other_update : (u : Update) → IsOther u → is_other_update u ≡ true
other_update update.InSync h = refl
other_update (update.Put k x) h = both (is_other_key k) (is_unmarked_item x) h.0 h.1
other_update (update.Delete k) h = h.0

abbrev IsFormed : Update → Type 0
IsFormed u = is_formed u ≡ true

abbrev IsSoundPut : Resource → Type 0
IsSoundPut r = (is_formed r.plain && (is_other_update r.plain && is_lowerable_update r.services r.plain)) ≡ true

-- what is read of it apart from what may be lowered
abbrev IsOtherPut : Resource → Type 0
IsOtherPut r = (is_formed r.plain ≡ true) × IsOther r.plain

resource-other_put : (d : Data) → IfOk (read_resource d) IsOtherPut
unfolding read_resource
resource-other_put d =
    then-if IsOtherPut (put_with PassedOver d) _ (λ plain plain_read.
    then-if IsOtherPut (resource_services d) _ (λ services _.
    then-if IsOtherPut (unmarked (kubernetes_kind d) plain) _ (λ x x_read.
    (read-if IsFormed (put_with PassedOver d) plain (put_with-formed PassedOver d) plain_read, put-other d plain x plain_read x_read))))

both-read : (answer : Result Resource ReadFault) → IfOk answer IsOtherPut → IfOk answer IsLowerable → IfOk answer IsSoundPut
both-read (Ok r) h low =
    both (is_formed r.plain) (is_other_update r.plain && is_lowerable_update r.services r.plain) h.0
    (both (is_other_update r.plain) (is_lowerable_update r.services r.plain) (other_update r.plain h.1) low)
both-read (Err fault) h low = tt

resource-sound : (d : Data) → IfOk (read_resource d) IsSoundPut
resource-sound d = both-read (read_resource d) (resource-other_put d) (read_resource-low d)

-- ---- slices

passing-if : {A : Type 0} (test : A → Bool) (o : Option A) → IfSome (passing test o) (λ x. test x ≡ true)
passing-if test None = tt
passing-if {A = A} test (Some x) = chosen (test x) x refl
  where
    chosen : (b : Bool) (x : A) → test x ≡ b → IfSome (if b then Some x else None) (λ y. test y ≡ true)
    chosen true x e = e
    chosen false x e = tt

abbrev HasPorts : Proto → Type 0
HasPorts p = has_ports p.0 ≡ true

protocol-if : (path : List ℕ) (d : Data) → IfOk (port_protocol path d) HasPorts
protocol-if path d =
    formed-if HasPorts path (passing (λ p. has_ports p.0) (protocol_in d)) (passing-if (λ (p : Proto). has_ports p.0) (protocol_in d))

protocol_at-if : (path k : List ℕ) (d : Data) → IfOk (defaulted tcp port_protocol path k d) HasPorts
unfolding defaulted
protocol_at-if path k d =
    at_member-if HasPorts (Ok tcp) (port_protocol (member_path path k)) (field k d) refl (protocol-if (member_path path k))

-- a port, if there is one, of a protocol that has ports
abbrev is_ported : Option SlicePort → Bool
is_ported None = true
is_ported (Some q) = has_ports q.proto.0

abbrev IsPorted : Option SlicePort → Type 0
IsPorted o = is_ported o ≡ true

numbered-if : (proto : Proto) (number : Option ℕ) → HasPorts proto → IsPorted (with_number proto number)
numbered-if proto None h = refl
numbered-if proto (Some n) h = h

port_fields-if : (path : List ℕ) (d : Data) → IfOk (port_fields path d) IsPorted
unfolding port_fields
port_fields-if path d =
    then-if IsPorted (optional (whole 1 65535) path (codes "port") d) _ (λ number _.
    then-if IsPorted (defaulted tcp port_protocol path (codes "protocol") d) _ (λ proto proto_read.
    numbered-if proto number (read-if HasPorts (defaulted tcp port_protocol path (codes "protocol") d) proto (protocol_at-if path (codes "protocol") d) proto_read)))

slice_port-if : (path : List ℕ) (d : Data) → IfOk (slice_port path d) IsPorted
unfolding slice_port
slice_port-if path d = then-if IsPorted (object_at path d) (port_fields path) (λ o _. port_fields-if path o)

abbrev ArePorted : List (Option SlicePort) → Type 0
ArePorted ports = list_all is_ported ports ≡ true

ports-if : (k : List ℕ) (d : Data) → IfOk (items_here slice_port k d) ArePorted
unfolding items_here
ports-if k d =
    at_member-if ArePorted (Ok []) (items_in slice_port k) (field k d) refl
    (λ v. then-if ArePorted (formed k (as_array v)) (items_from slice_port k 0) (λ ds _. items_from-each is_ported slice_port slice_port-if k 0 ds))

given-ported : (ports : List (Option SlicePort)) → ArePorted ports → list_all (λ q. has_ports q.proto.0) (filter_map (λ port. port) ports) ≡ true
given-ported [] e = refl
given-ported (None ∷ ports) e = given-ported ports e
given-ported (Some q ∷ ports) e =
    both (has_ports q.proto.0) (list_all (λ p. has_ports p.proto.0) (filter_map (λ port. port) ports)) (first_of (has_ports q.proto.0) (list_all is_ported ports) e)
    (given-ported ports (second_of (has_ports q.proto.0) (list_all is_ported ports) e))

abbrev IsSoundSlice : Slice → Type 0
IsSoundSlice s = is_sound_slice s ≡ true

slice-sound : (d : Data) → IfOk (slice_of d) IsSoundSlice
unfolding slice_of
slice-sound d =
    then-if IsSoundSlice (metadata_in d) _ (λ about about_read.
    then-if IsSoundSlice (required_here address_type (codes "addressType") d) _ (λ addresses _.
    then-if IsSoundSlice (items_here (slice_addresses addresses) (codes "endpoints") d) _ (λ endpoints _.
    then-if IsSoundSlice (items_here slice_port (codes "ports") d) _ (λ ports ports_read.
    both (is_formed_namespace about.named.ns) (list_all (λ q. has_ports q.proto.0) (filter_map (λ port. port) ports))
    (namespace_free about.named.ns (read-if IsOfNamespace (metadata_in d) about (metadata_in-if d) about_read))
    (given-ported ports (read-if ArePorted (items_here slice_port (codes "ports") d) ports (ports-if (codes "ports") d) ports_read))))))

-- ---- deletes

key_of-other : (kind : Kind) (path : List ℕ) (d : Data) → IfOk (key_of kind path d) IsOtherKey
key_of-other AProfile path d = then-if IsOtherKey (name_at path d) _ (λ name _. refl)
key_of-other WorkloadEndpoint path d =
    then-if IsOtherKey (namespaced_name path d) _ (λ named named_read.
    namespace-other named.ns (read-if IsNamespaced (namespaced_name path d) named (namespaced_name-if path d) named_read))
key_of-other ATier path d = then-if IsOtherKey (name_at path d) _ (λ name _. refl)
key_of-other GlobalNetworkPolicy path d = then-if IsOtherKey (name_at path d) _ (λ name _. refl)
key_of-other NetworkPolicy path d = then-if IsOtherKey (namespaced_name path d) _ (λ named _. refl)
key_of-other NetworkSet path d = then-if IsOtherKey (namespaced_name path d) _ (λ named _. refl)
key_of-other GlobalNetworkSet path d = then-if IsOtherKey (name_at path d) _ (λ name _. refl)

key_in-other : (kind : Kind) (d : Data) → IfOk (key_in kind d) IsOtherKey
unfolding key_in
key_in-other kind d =
    then-if IsOtherKey (section (codes "metadata") (codes "metadata") d) _ (λ metadata _. key_of-other kind (codes "metadata") metadata)

kubernetes_key_of-other : (kind : KubernetesKind) (path : List ℕ) (d : Data) → IfOk (kubernetes_key_of kind path d) IsOtherKey
kubernetes_key_of-other kubernetes.Namespace path d = then-if IsOtherKey (name_at path d) _ (λ name _. refl)
kubernetes_key_of-other kubernetes.ServiceAccount path d = then-if IsOtherKey (namespaced_name path d) _ (λ named _. refl)
kubernetes_key_of-other kubernetes.NetworkPolicy path d = then-if IsOtherKey (namespaced_name path d) _ (λ named _. refl)

kubernetes_key_in-other : (kind : KubernetesKind) (d : Data) → IfOk (kubernetes_key_in kind d) IsOtherKey
unfolding kubernetes_key_in
kubernetes_key_in-other kind d =
    then-if IsOtherKey (section (codes "metadata") (codes "metadata") d) _ (λ metadata _. kubernetes_key_of-other kind (codes "metadata") metadata)

-- a delete at another key
abbrev DeletesOther : Update → Type 0
DeletesOther u = (is_other_update u && is_lowerable_update no_services u) ≡ true

calico-deletes : (d : Data) → IfOk (calico_delete d) DeletesOther
unfolding calico_delete
calico-deletes d =
    then-if DeletesOther (kind_of d) _ (λ kind _.
    then-if DeletesOther (key_in kind d) _ (λ k k_read.
    both (is_other_key k) true (read-if IsOtherKey (key_in kind d) k (key_in-other kind d) k_read) refl))

kubernetes-deletes : (kind : KubernetesKind) (d : Data) → IfOk (kubernetes_delete kind d) DeletesOther
unfolding kubernetes_delete
kubernetes-deletes kind d =
    then-if DeletesOther (kubernetes_key_in kind d) _ (λ k k_read.
    both (is_other_key k) true (read-if IsOtherKey (kubernetes_key_in kind d) k (kubernetes_key_in-other kind d) k_read) refl)

deletes-other : (d : Data) → IfOk (delete_of d) DeletesOther
unfolding delete_of
deletes-other d =
    elim (kubernetes_kind d) as (λ o. IfOk (elim o [ Some kind ↦ kubernetes_delete kind d | None ↦ calico_delete d ]) DeletesOther) [
      | Some kind ↦ kubernetes-deletes kind d
      | None ↦ calico-deletes d
    ]

abbrev IsSoundDelete : Update → Type 0
IsSoundDelete u = (is_formed u && (is_other_update u && is_lowerable_update no_services u)) ≡ true

both-deleted : (answer : Result Update ReadFault) → IfOk answer IsFormed → IfOk answer DeletesOther → IfOk answer IsSoundDelete
both-deleted (Ok u) h other = both (is_formed u) (is_other_update u && is_lowerable_update no_services u) h other
both-deleted (Err fault) h other = tt

delete-sound : (d : Data) → IfOk (delete_of d) IsSoundDelete
delete-sound d = both-deleted (delete_of d) (delete_of-formed d) (deletes-other d)

pub reads_are_sound : ReadUpdatesAreSound
reads_are_sound d = (resource-sound d, (slice-sound d, delete-sound d))
