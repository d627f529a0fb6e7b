-- Each update that is read is formed, puts no endpoint on an interface that isn't one of workloads, and puts or deletes.
use Rattle.std.proofs.Common.{◌≡◌, ℕ, List, true, Some, None, Result, Ok, Err, IfOk, refl}
use Rattle.serde_json.specs.Data.{Data}
use Rattle.fx_model.specs.declared.resources.Update.{Update}
use Rattle.fx_model.specs.Formed.{is_formed_policy_id, is_formed_policy, is_formed, puts_workload_interface}
use Rattle.fx_model.specs.Steps.{is_change}
use Rattle.fx_model.specs.declared.ids.PolicyId.TheVariants.{Kube}
use Rattle.fx_fields.specs.declared.fault.ReadFault.{ReadFault}
use Rattle.fx_fields.specs.declared.kinds.KubernetesKind.{KubernetesKind}
use Rattle.fx_fields.specs.declared.kinds.KubernetesKind.TheVariants.{Namespace, ServiceAccount, NetworkPolicy}
use Rattle.fx_fields.specs.Kinds.{kubernetes_kind}
use Rattle.fx_fields.specs.Metadata.{metadata_in, global_metadata_in}
use Rattle.fx_fields.specs.Names.{namespaced_name_in}
use Rattle.fx_fields.proofs.NameTexts.{named_in_string}
use Rattle.fx_fields.proofs.Readings.{then-if, read-if, both}
use Rattle.fx_fields.specs.declared.rule_form.Services.{Services}
use Rattle.fx_json.specs.Resources.{resource_with}
use Rattle.fx_json.proofs.FormedNames.{named_in-formed}
use Rattle.fx_json.proofs.FormedPolicies.{IsTakable}
use Rattle.fx_json.proofs.FormedResources.{resource_with-takable}
use Rattle.fx_k8s.specs.Conversion.{converted_policy}
use Rattle.fx_k8s.specs.Policies.{policy_in, policy_put}
use Rattle.fx_k8s.specs.Profiles.{namespace_put, account_put}
use Rattle.fx_k8s.specs.Puts.{kubernetes_put, put_with}
use Rattle.fx_k8s.proofs.ReadForms.{IsFormedPolicy, policy_in-formed}
use Rattle.fx_k8s.proofs.FormedConversion.{policy-formed}

namespace_put-takable : (d : Data) → IfOk (namespace_put d) IsTakable
unfolding namespace_put
namespace_put-takable d = then-if IsTakable (global_metadata_in d) _ (λ about _. (refl, λ node. refl, refl))

account_put-takable : (d : Data) → IfOk (account_put d) IsTakable
unfolding account_put
account_put-takable d = then-if IsTakable (metadata_in d) _ (λ about _. (refl, λ node. refl, refl))

policy_put-takable : (d : Data) → IfOk (policy_put d) IsTakable
unfolding policy_put
policy_put-takable d =
    then-if IsTakable (namespaced_name_in d) _ (λ named named_read.
    then-if IsTakable (policy_in d) _ (λ policy policy_read. (
      both (is_formed_policy_id (Kube named.ns named.name)) (is_formed_policy (converted_policy named.ns policy)) (named_in-formed d named named_read)
          (policy-formed named.ns (named_in_string d named named_read) policy (read-if IsFormedPolicy (policy_in d) policy (policy_in-formed d) policy_read)),
      λ node. refl,
      refl,
    )))

kubernetes_put-takable : (kind : KubernetesKind) (d : Data) → IfOk (kubernetes_put kind d) IsTakable
kubernetes_put-takable Namespace d = namespace_put-takable d
kubernetes_put-takable ServiceAccount d = account_put-takable d
kubernetes_put-takable NetworkPolicy d = policy_put-takable d

put_with-takable : (services : Services) (d : Data) → IfOk (put_with services d) IsTakable
unfolding put_with
put_with-takable services d =
    elim (kubernetes_kind d) as (λ o. IfOk (elim o [ Some kind ↦ kubernetes_put kind d | None ↦ resource_with services d ]) IsTakable) [
      | Some kind ↦ kubernetes_put-takable kind d
      | None ↦ resource_with-takable services d
    ]

first-if : (answer : Result Update ReadFault) → IfOk answer IsTakable → IfOk answer (λ u. is_formed u ≡ true)
first-if (Ok u) is = is.0
first-if (Err fault) is = tt

second-if : (node : List ℕ) (answer : Result Update ReadFault) → IfOk answer IsTakable → IfOk answer (λ u. puts_workload_interface node u ≡ true)
second-if node (Ok u) is = is.1 node
second-if node (Err fault) is = tt

third-if : (answer : Result Update ReadFault) → IfOk answer IsTakable → IfOk answer (λ u. is_change u ≡ true)
third-if (Ok u) is = is.2
third-if (Err fault) is = tt

pub put_with-formed : (services : Services) (d : Data) → IfOk (put_with services d) (λ u. is_formed u ≡ true)
put_with-formed services d = first-if (put_with services d) (put_with-takable services d)

pub put_with-workload : (services : Services) (node : List ℕ) (d : Data) → IfOk (put_with services d) (λ u. puts_workload_interface node u ≡ true)
put_with-workload services node d = second-if node (put_with services d) (put_with-takable services d)

pub put_with-change : (services : Services) (d : Data) → IfOk (put_with services d) (λ u. is_change u ≡ true)
put_with-change services d = third-if (put_with services d) (put_with-takable services d)
