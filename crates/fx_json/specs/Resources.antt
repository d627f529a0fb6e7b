-- A resource of Calico, by its kind, what a delete names, and a Profile field by field in the order of Calico's resource reference
-- (`projectcalico.org/v3`). Members that aren't named here are ignored.
use Rattle.std.specs.Prelude.{Option, Some, None, Result, Ok, codes}
use Rattle.serde_json.specs.Data.{Data}
use Rattle.fx_model.specs.declared.ids.Key.{Key}
use Rattle.fx_model.specs.declared.ids.Key.TheVariants as key
use Rattle.fx_model.specs.declared.resources.Profile.{Profile}
use Rattle.fx_model.specs.declared.resources.Item.TheVariants as item
use Rattle.fx_model.specs.declared.resources.Update.{Update}
use Rattle.fx_model.specs.declared.resources.Update.TheVariants as update
use Rattle.fx_fields.specs.declared.fault.ReadFault.{ReadFault}
use Rattle.fx_fields.specs.declared.kinds.Kind.{Kind}
use Rattle.fx_fields.specs.declared.kinds.Kind.TheVariants.{Profile as AProfile, WorkloadEndpoint, Tier as ATier, GlobalNetworkPolicy, NetworkPolicy, NetworkSet, GlobalNetworkSet}
use Rattle.fx_fields.specs.declared.rule_form.RulePlace.TheVariants.{OfProfile}
use Rattle.fx_fields.specs.declared.rule_form.Services.{Services}
use Rattle.fx_fields.specs.declared.rule_form.Services.TheVariants.{Refused}
use Rattle.fx_fields.specs.Fields.{◌>>=◌, Reader, section, items}
use Rattle.fx_fields.specs.declared.kinds.KubernetesKind.{KubernetesKind}
use Rattle.fx_fields.specs.Kinds.{kind_of, kubernetes_kind}
use Rattle.fx_fields.specs.Names.{name_at, namespaced_name, name_in}
use Rattle.fx_fields.specs.Labels.{labels_at}
use Rattle.fx_json.specs.Rules.{form_in, rule}
use Rattle.fx_json.specs.Policies.{tier_put, global_key, global_policy_put, namespaced_key, namespaced_policy_put}
use Rattle.fx_json.specs.Endpoints.{endpoint_key, endpoint_put}
use Rattle.fx_json.specs.Kubernetes.{kubernetes_key_in}
use Rattle.fx_json.specs.NetSets.{global_set_key, global_set_put, net_set_key, net_set_put}

-- ---- profiles

-- the profile that `spec` holds
unfoldable pub profile_of : Services → Reader Profile
profile_of services path spec = do
  ingress ← items (rule (form_in OfProfile services)) path (codes "ingress") spec
  egress ← items (rule (form_in OfProfile services)) path (codes "egress") spec
  inherited ← labels_at path (codes "labelsToApply") spec
  Ok (record { labels = inherited; ingress = ingress; egress = egress })

unfoldable pub profile_in : Services → Data → Result Profile ReadFault
profile_in services d = do
  spec ← section (codes "spec") (codes "spec") d
  profile_of services (codes "spec") spec

unfoldable pub profile_put : Services → Data → Result Update ReadFault
profile_put services d = do
  name ← name_in d
  profile ← profile_in services d
  Ok (update.Put (key.Profile name) (item.Profile profile))

-- ---- puts and deletes

-- a resource of this kind that is put
abbrev pub put_of : Services → Kind → Data → Result Update ReadFault
put_of services AProfile d = profile_put services d
put_of services WorkloadEndpoint d = endpoint_put d
put_of services ATier d = tier_put d
put_of services GlobalNetworkPolicy d = global_policy_put services d
put_of services NetworkPolicy d = namespaced_policy_put services d
put_of services NetworkSet d = net_set_put d
put_of services GlobalNetworkSet d = global_set_put d

-- what a put of a resource of Calico is read as, by what is done with services
unfoldable pub resource_with : Services → Data → Result Update ReadFault
resource_with services d = do
  kind ← kind_of d
  put_of services kind d

-- where services are refused
abbrev pub resource_of : Data → Result Update ReadFault
resource_of d = resource_with Refused d

-- the key of a resource of this kind
abbrev pub key_of : Kind → Reader Key
key_of AProfile path metadata = name_at path metadata >>= λ name. Ok (key.Profile name)
key_of WorkloadEndpoint path metadata = namespaced_name path metadata >>= λ named. Ok (endpoint_key named)
key_of ATier path metadata = name_at path metadata >>= λ name. Ok (key.Tier name)
key_of GlobalNetworkPolicy path metadata = name_at path metadata >>= λ name. Ok (global_key name)
key_of NetworkPolicy path metadata = namespaced_name path metadata >>= λ named. Ok (namespaced_key named)
key_of NetworkSet path metadata = namespaced_name path metadata >>= λ named. Ok (net_set_key named)
key_of GlobalNetworkSet path metadata = name_at path metadata >>= λ name. Ok (global_set_key name)

unfoldable pub key_in : Kind → Data → Result Key ReadFault
key_in kind d = do
  metadata ← section (codes "metadata") (codes "metadata") d
  key_of kind (codes "metadata") metadata

unfoldable pub calico_delete : Data → Result Update ReadFault
calico_delete d = do
  kind ← kind_of d
  k ← key_in kind d
  Ok (update.Delete k)

unfoldable pub kubernetes_delete : KubernetesKind → Data → Result Update ReadFault
kubernetes_delete kind d = do
  k ← kubernetes_key_in kind d
  Ok (update.Delete k)

-- what a delete of a resource is read as, one of Kubernetes or one of Calico
unfoldable pub delete_of : Data → Result Update ReadFault
delete_of d = by_kind (kubernetes_kind d)
  where
    by_kind : Option KubernetesKind → Result Update ReadFault
    by_kind (Some kind) = kubernetes_delete kind d
    by_kind None = calico_delete d
