-- The keys of Kubernetes' resources (`v1`, `networking.k8s.io/v1`), by the names that Calico gives them: a Namespace is the profile
-- `kns.NAME`, a ServiceAccount the profile `ksa.NAMESPACE.NAME`, and a NetworkPolicy a policy of its namespace.
use Rattle.std.specs.Prelude.{ℕ, List, ◌++◌, Result, Ok, codes}
use Rattle.serde_json.specs.Data.{Data}
use Rattle.fx_model.specs.declared.ids.Key.{Key}
use Rattle.fx_model.specs.declared.ids.Key.TheVariants as key
use Rattle.fx_model.specs.declared.ids.PolicyId.TheVariants as policy_id
use Rattle.fx_fields.specs.declared.fault.ReadFault.{ReadFault}
use Rattle.fx_fields.specs.declared.kinds.KubernetesKind.{KubernetesKind}
use Rattle.fx_fields.specs.declared.kinds.KubernetesKind.TheVariants.{Namespace, ServiceAccount, NetworkPolicy}
use Rattle.fx_fields.specs.declared.names.NamespacedName.{NamespacedName}
use Rattle.fx_fields.specs.Fields.{◌>>=◌, Reader, section}
use Rattle.fx_fields.specs.Names.{name_at, namespaced_name}

-- ---- profiles

abbrev pub namespace_profile : List ℕ → List ℕ
namespace_profile name = codes "kns." ++ name

abbrev pub account_profile : NamespacedName → List ℕ
account_profile named = codes "ksa." ++ (named.ns ++ (codes "." ++ named.name))

-- ---- keys

abbrev pub namespace_key : List ℕ → Key
namespace_key name = key.Profile (namespace_profile name)

abbrev pub account_key : NamespacedName → Key
account_key named = key.Profile (account_profile named)

abbrev pub kubernetes_policy_key : NamespacedName → Key
kubernetes_policy_key named = key.Policy (policy_id.Kube named.ns named.name)

-- the key of a resource of this kind
abbrev pub kubernetes_key_of : KubernetesKind → Reader Key
kubernetes_key_of Namespace path metadata = name_at path metadata >>= λ name. Ok (namespace_key name)
kubernetes_key_of ServiceAccount path metadata = namespaced_name path metadata >>= λ named. Ok (account_key named)
kubernetes_key_of NetworkPolicy path metadata = namespaced_name path metadata >>= λ named. Ok (kubernetes_policy_key named)

unfoldable pub kubernetes_key_in : KubernetesKind → Data → Result Key ReadFault
kubernetes_key_in kind d = do
  metadata ← section (codes "metadata") (codes "metadata") d
  kubernetes_key_of kind (codes "metadata") metadata
