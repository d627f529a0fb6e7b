-- Each update that is read is formed: a namespace holds no `/`, and an item is of its key's kind. It puts no endpoint on an
-- interface that isn't one of workloads, either, and it puts or deletes.
use Rattle.std.proofs.Common.{◌≡◌, ℕ, List, true, Some, None, Result, Ok, Err, IfOk, refl}
use Rattle.std.specs.Prelude.{codes}
use Rattle.std.specs.List.{list_all}
use Rattle.serde_json.specs.Data.{Data}
use Rattle.fx_model.specs.declared.rules.Rule.{Rule}
use Rattle.fx_model.specs.declared.resources.Profile.{Profile}
use Rattle.fx_model.specs.declared.resources.Update.{Update}
use Rattle.fx_model.specs.declared.ids.Key.{Key}
use Rattle.fx_model.specs.Formed.{is_formed_profile_rule, is_formed_profile, is_formed_key, is_formed, puts_workload_interface}
use Rattle.fx_model.specs.Steps.{is_change}
use Rattle.fx_fields.specs.declared.fault.ReadFault.{ReadFault}
use Rattle.fx_fields.specs.Faults.{IsAnswerOf}
use Rattle.fx_fields.specs.declared.kinds.Kind.{Kind}
use Rattle.fx_fields.specs.declared.kinds.Kind.TheVariants.{Profile as AProfile, WorkloadEndpoint, Tier as ATier, GlobalNetworkPolicy, NetworkPolicy, NetworkSet, GlobalNetworkSet}
use Rattle.fx_fields.specs.declared.kinds.KubernetesKind.{KubernetesKind}
use Rattle.fx_fields.specs.declared.kinds.KubernetesKind.TheVariants as kubernetes
use Rattle.fx_fields.specs.declared.rule_form.RulePlace.TheVariants.{OfProfile}
use Rattle.fx_fields.specs.declared.rule_form.Services.{Services}
use Rattle.fx_fields.specs.Fields.{items, section}
use Rattle.fx_fields.specs.Labels.{labels_at}
use Rattle.fx_json.specs.Rules.{form_in, rule}
use Rattle.fx_fields.specs.Names.{name_at, namespaced_name, name_in}
use Rattle.fx_fields.specs.Kinds.{kind_of, kubernetes_kind}
use Rattle.fx_json.specs.Resources.{profile_of, profile_put, put_of, resource_with, key_of, calico_delete, kubernetes_delete, delete_of, key_in, profile_in}
use Rattle.fx_json.specs.Kubernetes.{kubernetes_key_of, kubernetes_key_in}
use Rattle.fx_fields.proofs.Readings.{then-if, read-if, both, items-each}
use Rattle.fx_json.proofs.FormedNames.{named-formed}
use Rattle.fx_json.proofs.FormedRules.{profile_rule-formed}
use Rattle.fx_json.proofs.FormedPolicies.{IsTakable, tier_put-formed, global_policy_put-formed, namespaced_policy_put-formed}
use Rattle.fx_json.proofs.FormedItems.{endpoint_put-formed, net_set_put-formed, global_set_put-formed}

-- ---- profiles

profile_of-formed : (services : Services) (path : List ℕ) (d : Data) → IfOk (profile_of services path d) (λ p. is_formed_profile p ≡ true)
unfolding profile_of
profile_of-formed services path d =
    then-if P (items (rule (form_in OfProfile services)) path (codes "ingress") d) _ (λ ingress ingress_read.
    then-if P (items (rule (form_in OfProfile services)) path (codes "egress") d) _ (λ egress egress_read.
    then-if P (labels_at path (codes "labelsToApply") d) _ (λ inherited _.
    both (list_all is_formed_profile_rule ingress) (list_all is_formed_profile_rule egress)
    (read-if Q (items (rule (form_in OfProfile services)) path (codes "ingress") d) ingress (items-each is_formed_profile_rule (rule (form_in OfProfile services)) (profile_rule-formed services) path (codes "ingress") d) ingress_read)
    (read-if Q (items (rule (form_in OfProfile services)) path (codes "egress") d) egress (items-each is_formed_profile_rule (rule (form_in OfProfile services)) (profile_rule-formed services) path (codes "egress") d) egress_read))))
  where
    P : Profile → Type 0
    P p = is_formed_profile p ≡ true

    Q : List Rule → Type 0
    Q rules = list_all is_formed_profile_rule rules ≡ true

-- ---- puts of profiles

profile_in-formed : (services : Services) (d : Data) → IfOk (profile_in services d) (λ p. is_formed_profile p ≡ true)
unfolding profile_in
profile_in-formed services d = then-if (λ p. is_formed_profile p ≡ true) (section (codes "spec") (codes "spec") d) _ (λ spec _. profile_of-formed services (codes "spec") spec)

profile_put-formed : (services : Services) (d : Data) → IfOk (profile_put services d) IsTakable
unfolding profile_put
profile_put-formed services d =
    then-if IsTakable (name_in d) _ (λ name _.
    then-if IsTakable (profile_in services d) _ (λ profile profile_read.
    (read-if (λ (p : Profile). is_formed_profile p ≡ true) (profile_in services d) profile (profile_in-formed services d) profile_read, λ node. refl, refl)))

-- ---- keys

abbrev IsFormedKey : Key → Type 0
IsFormedKey k = is_formed_key k ≡ true

key_of-formed : (kind : Kind) (path : List ℕ) (d : Data) → IfOk (key_of kind path d) IsFormedKey
key_of-formed AProfile path d = then-if IsFormedKey (name_at path d) _ (λ name _. refl)
key_of-formed WorkloadEndpoint path d = then-if IsFormedKey (namespaced_name path d) _ (λ named is. named-formed path d named is)
key_of-formed ATier path d = then-if IsFormedKey (name_at path d) _ (λ name _. refl)
key_of-formed GlobalNetworkPolicy path d = then-if IsFormedKey (name_at path d) _ (λ name _. refl)
key_of-formed NetworkPolicy path d = then-if IsFormedKey (namespaced_name path d) _ (λ named is. named-formed path d named is)
key_of-formed NetworkSet path d = then-if IsFormedKey (namespaced_name path d) _ (λ named is. named-formed path d named is)
key_of-formed GlobalNetworkSet path d = then-if IsFormedKey (name_at path d) _ (λ name _. refl)

key_in-formed : (kind : Kind) (d : Data) → IfOk (key_in kind d) (λ k. is_formed_key k ≡ true)
unfolding key_in
key_in-formed kind d = then-if (λ k. is_formed_key k ≡ true) (section (codes "metadata") (codes "metadata") d) _ (λ metadata _. key_of-formed kind (codes "metadata") metadata)

kubernetes_key_of-formed : (kind : KubernetesKind) (path : List ℕ) (d : Data) → IfOk (kubernetes_key_of kind path d) IsFormedKey
kubernetes_key_of-formed kubernetes.Namespace path d = then-if IsFormedKey (name_at path d) _ (λ name _. refl)
kubernetes_key_of-formed kubernetes.ServiceAccount path d = then-if IsFormedKey (namespaced_name path d) _ (λ named _. refl)
kubernetes_key_of-formed kubernetes.NetworkPolicy path d = then-if IsFormedKey (namespaced_name path d) _ (λ named is. named-formed path d named is)

kubernetes_key_in-formed : (kind : KubernetesKind) (d : Data) → IfOk (kubernetes_key_in kind d) IsFormedKey
unfolding kubernetes_key_in
kubernetes_key_in-formed kind d =
    then-if IsFormedKey (section (codes "metadata") (codes "metadata") d) _ (λ metadata _. kubernetes_key_of-formed kind (codes "metadata") metadata)

-- ---- puts and deletes

put_of-formed : (services : Services) (kind : Kind) (d : Data) → IfOk (put_of services kind d) IsTakable
put_of-formed services AProfile d = profile_put-formed services d
put_of-formed services WorkloadEndpoint d = endpoint_put-formed d
put_of-formed services ATier d = tier_put-formed d
put_of-formed services GlobalNetworkPolicy d = global_policy_put-formed services d
put_of-formed services NetworkPolicy d = namespaced_policy_put-formed services d
put_of-formed services NetworkSet d = net_set_put-formed d
put_of-formed services GlobalNetworkSet d = global_set_put-formed d

pub resource_with-takable : (services : Services) (d : Data) → IfOk (resource_with services d) IsTakable
unfolding resource_with
resource_with-takable services d = then-if IsTakable (kind_of d) _ (λ kind _. put_of-formed services kind d)

calico_delete-takable : (d : Data) → IfOk (calico_delete d) IsTakable
unfolding calico_delete
calico_delete-takable d =
    then-if IsTakable (kind_of d) _ (λ kind _.
    then-if IsTakable (key_in kind d) _ (λ k k_read.
    (read-if (λ (k : Key). is_formed_key k ≡ true) (key_in kind d) k (key_in-formed kind d) k_read, λ node. refl, refl)))

kubernetes_delete-takable : (kind : KubernetesKind) (d : Data) → IfOk (kubernetes_delete kind d) IsTakable
unfolding kubernetes_delete
kubernetes_delete-takable kind d =
    then-if IsTakable (kubernetes_key_in kind d) _ (λ k k_read.
    (read-if IsFormedKey (kubernetes_key_in kind d) k (kubernetes_key_in-formed kind d) k_read, λ node. refl, refl))

pub delete_of-takable : (d : Data) → IfOk (delete_of d) IsTakable
unfolding delete_of
delete_of-takable d =
    elim (kubernetes_kind d) as (λ o. IfOk (elim o [ Some kind ↦ kubernetes_delete kind d | None ↦ calico_delete d ]) IsTakable) [
      | Some kind ↦ kubernetes_delete-takable kind d
      | None ↦ calico_delete-takable d
    ]

first-if : (answer : Result Update ReadFault) → IfOk answer IsTakable → IfOk answer (λ u. is_formed u ≡ true)
first-if (Ok u) is = is.0
first-if (Err fault) is = tt

second-if : (node : List ℕ) (answer : Result Update ReadFault) → IfOk answer IsTakable → IfOk answer (λ u. puts_workload_interface node u ≡ true)
second-if node (Ok u) is = is.1 node
second-if node (Err fault) is = tt

third-if : (answer : Result Update ReadFault) → IfOk answer IsTakable → IfOk answer (λ u. is_change u ≡ true)
third-if (Ok u) is = is.2
third-if (Err fault) is = tt

-- a put that is read is formed, and is for an interface of workloads
pub resource_with-formed : (services : Services) (d : Data) → IfOk (resource_with services d) (λ u. is_formed u ≡ true)
resource_with-formed services d = first-if (resource_with services d) (resource_with-takable services d)

pub resource_with-workload : (services : Services) (node : List ℕ) (d : Data) → IfOk (resource_with services d) (λ u. puts_workload_interface node u ≡ true)
resource_with-workload services node d = second-if node (resource_with services d) (resource_with-takable services d)

-- so is a delete
pub delete_of-formed : (d : Data) → IfOk (delete_of d) (λ u. is_formed u ≡ true)
delete_of-formed d = first-if (delete_of d) (delete_of-takable d)

pub delete_of-workload : (node : List ℕ) (d : Data) → IfOk (delete_of d) (λ u. puts_workload_interface node u ≡ true)
delete_of-workload node d = second-if node (delete_of d) (delete_of-takable d)

-- which is no mark that all is in sync
pub delete_of-change : (d : Data) → IfOk (delete_of d) (λ u. is_change u ≡ true)
delete_of-change d = third-if (delete_of d) (delete_of-takable d)

-- what code answers of them
pub answered-workload : (answer told : Result Update ReadFault) → ((node : List ℕ) → IfOk answer (λ u. puts_workload_interface node u ≡ true)) → IsAnswerOf answer told → IfOk told (λ u. (node : List ℕ) → puts_workload_interface node u ≡ true)
answered-workload answer (Ok u) holds is = λ node. read-if (λ (u : Update). puts_workload_interface node u ≡ true) answer u (holds node) is
answered-workload answer (Err fault) holds is = tt
