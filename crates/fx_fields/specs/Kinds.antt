-- The kind of a resource, by its `apiVersion` and its `kind`: those of Calico's resource reference (`projectcalico.org/v3`), and of
-- Kubernetes' API reference (`v1` and `networking.k8s.io/v1`) those that select or name workloads.
use Rattle.std.specs.Prelude.{ℕ, List, if◌then◌else◌, Option, Some, None, option_and_then, Result, Ok, Err, codes}
use Rattle.std.specs.Str.{bytes_eq}
use Rattle.serde_json.specs.Data.{Data}
use Rattle.serde_json.specs.Find.{as_str}
use Rattle.fx_fields.specs.declared.fault.ReadFault.{ReadFault}
use Rattle.fx_fields.specs.declared.fault.ReadFault.TheVariants.{UnknownKind}
use Rattle.fx_fields.specs.declared.kinds.Kind.{Kind}
use Rattle.fx_fields.specs.declared.kinds.Kind.TheVariants.{Profile, WorkloadEndpoint, Tier, GlobalNetworkPolicy, NetworkPolicy, NetworkSet, GlobalNetworkSet}
use Rattle.fx_fields.specs.declared.kinds.KubernetesKind.{KubernetesKind}
use Rattle.fx_fields.specs.declared.kinds.KubernetesKind.TheVariants as kubernetes
use Rattle.fx_fields.specs.Fields.{field}

-- the text of this name
abbrev pub text_at : List ℕ → Data → Option (List ℕ)
text_at name d = option_and_then as_str (field name d)

-- ---- Calico's kinds

unfoldable pub calico_kind : List ℕ → Result Kind ReadFault
calico_kind kind =
    if bytes_eq kind (codes "Profile") then Ok Profile
    else (if bytes_eq kind (codes "WorkloadEndpoint") then Ok WorkloadEndpoint
    else (if bytes_eq kind (codes "Tier") then Ok Tier
    else (if bytes_eq kind (codes "GlobalNetworkPolicy") then Ok GlobalNetworkPolicy
    else (if bytes_eq kind (codes "NetworkPolicy") then Ok NetworkPolicy
    else (if bytes_eq kind (codes "NetworkSet") then Ok NetworkSet
    else (if bytes_eq kind (codes "GlobalNetworkSet") then Ok GlobalNetworkSet
    else Err UnknownKind))))))

-- a kind of this version of an API
abbrev pub kind_named : List ℕ → List ℕ → Result Kind ReadFault
kind_named version kind = if bytes_eq version (codes "projectcalico.org/v3") then calico_kind kind else Err UnknownKind

unfoldable pub kind_of : Data → Result Kind ReadFault
kind_of d = of_texts (text_at (codes "apiVersion") d) (text_at (codes "kind") d)
  where
    of_texts : Option (List ℕ) → Option (List ℕ) → Result Kind ReadFault
    of_texts None kind = Err UnknownKind
    of_texts (Some version) None = Err UnknownKind
    of_texts (Some version) (Some kind) = kind_named version kind

-- ---- Kubernetes' kinds

unfoldable pub core_kind : List ℕ → Option KubernetesKind
core_kind kind =
    if bytes_eq kind (codes "Namespace") then Some kubernetes.Namespace
    else (if bytes_eq kind (codes "ServiceAccount") then Some kubernetes.ServiceAccount else None)

abbrev pub network_kind : List ℕ → Option KubernetesKind
network_kind kind = if bytes_eq kind (codes "NetworkPolicy") then Some kubernetes.NetworkPolicy else None

abbrev pub kubernetes_kind_named : List ℕ → List ℕ → Option KubernetesKind
kubernetes_kind_named version kind =
    if bytes_eq version (codes "v1") then core_kind kind
    else (if bytes_eq version (codes "networking.k8s.io/v1") then network_kind kind else None)

-- the kind of a resource of Kubernetes, if it is one that is read
abbrev pub kubernetes_kind : Data → Option KubernetesKind
kubernetes_kind d =
    option_and_then (λ version. option_and_then (kubernetes_kind_named version) (text_at (codes "kind") d)) (text_at (codes "apiVersion") d)
