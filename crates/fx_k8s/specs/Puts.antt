-- A resource that is put: one of Kubernetes by its kind (`v1`, `networking.k8s.io/v1`), and any other as one of Calico
-- (`projectcalico.org/v3`).
use Rattle.std.specs.Prelude.{Option, Some, None, Result}
use Rattle.serde_json.specs.Data.{Data}
use Rattle.fx_model.specs.declared.resources.Update.{Update}
use Rattle.fx_fields.specs.declared.fault.ReadFault.{ReadFault}
use Rattle.fx_fields.specs.declared.kinds.KubernetesKind.{KubernetesKind}
use Rattle.fx_fields.specs.declared.kinds.KubernetesKind.TheVariants.{Namespace, ServiceAccount, NetworkPolicy}
use Rattle.fx_fields.specs.Kinds.{kubernetes_kind}
use Rattle.fx_fields.specs.declared.rule_form.Services.{Services}
use Rattle.fx_fields.specs.declared.rule_form.Services.TheVariants.{Refused}
use Rattle.fx_json.specs.Resources.{resource_with}
use Rattle.fx_k8s.specs.Policies.{policy_put}
use Rattle.fx_k8s.specs.Profiles.{namespace_put, account_put}

abbrev pub kubernetes_put : KubernetesKind → Data → Result Update ReadFault
kubernetes_put Namespace d = namespace_put d
kubernetes_put ServiceAccount d = account_put d
kubernetes_put NetworkPolicy d = policy_put d

-- what a put of a resource is read as, by what is done with services
unfoldable pub put_with : Services → Data → Result Update ReadFault
put_with services d = by_kind (kubernetes_kind d)
  where
    by_kind : Option KubernetesKind → Result Update ReadFault
    by_kind (Some kind) = kubernetes_put kind d
    by_kind None = resource_with services d

-- where services are refused
abbrev pub put_of : Data → Result Update ReadFault
put_of d = put_with Refused d
