-- Each endpoint and each network set that is read may be taken in.
use Rattle.std.proofs.Common.{◌≡◌, ℕ, List, length, true, nat_eq, nat_le, Ok, IfOk, refl}
use Rattle.std.specs.Prelude.{codes}
use Rattle.std.specs.List.{list_all, starts_with}
use Rattle.std.specs.Str.{bytes_eq}
use Rattle.serde_json.specs.Data.{Data}
use Rattle.fx_selector.specs.Truth.{LabelMap}
use Rattle.fx_model.specs.declared.resources.Endpoint.{Endpoint}
use Rattle.fx_model.specs.declared.resources.Item.TheVariants as item
use Rattle.fx_model.specs.declared.resources.Update.TheVariants as update
use Rattle.fx_model.specs.Policy.{is_workload}
use Rattle.fx_model.specs.Formed.{is_formed_namespace, is_formed_key, is_formed_endpoint}
use Rattle.fx_fields.specs.declared.names.NamespacedName.{NamespacedName}
use Rattle.fx_fields.specs.declared.metadata.Metadata.{Metadata}
use Rattle.fx_json.specs.declared.endpoints.Workload.{Workload}
use Rattle.fx_fields.specs.declared.texts.TextForm.TheVariants.{Name, WorkloadInterface}
use Rattle.fx_fields.specs.Forms.{is_name_byte, has_length, is_interface, is_workload_interface, text}
use Rattle.fx_fields.specs.Fields.{required, optional, section}
use Rattle.fx_fields.specs.Names.{namespaced_name}
use Rattle.fx_fields.specs.Labels.{labels_at}
use Rattle.fx_fields.specs.Metadata.{metadata_of, metadata_in, global_metadata_in}
use Rattle.fx_json.specs.Endpoints.{endpoint_key, workload, holdings, endpoint_of, endpoint_in, endpoint_put}
use Rattle.fx_json.specs.NetSets.{nets_in, net_set_put, global_set_put}
use Rattle.fx_fields.proofs.Readings.{then-if, read-if, required-if, both, first_of, second_of, text-formed}
use Rattle.fx_json.proofs.Implied.{implied}
use Rattle.fx_json.proofs.FormedNames.{named-formed}
use Rattle.fx_json.proofs.FormedPolicies.{IsTakable}

-- ---- metadata

abbrev HasNamespace : Metadata → Type 0
HasNamespace m = is_formed_namespace m.named.ns ≡ true

metadata_of-formed : (path : List ℕ) (d : Data) → IfOk (metadata_of path d) HasNamespace
unfolding metadata_of
metadata_of-formed path d =
    then-if HasNamespace (namespaced_name path d) _ (λ named named_read.
    then-if HasNamespace (labels_at path (codes "labels") d) _ (λ given _. named-formed path d named named_read))

metadata_in-formed : (d : Data) → IfOk (metadata_in d) HasNamespace
unfolding metadata_in
metadata_in-formed d =
    then-if HasNamespace (section (codes "metadata") (codes "metadata") d) _ (λ metadata _. metadata_of-formed (codes "metadata") metadata)

in_namespace-formed : (d : Data) (m : Metadata) → metadata_in d ≡ Ok m → HasNamespace m
in_namespace-formed d m is = read-if HasNamespace (metadata_in d) m (metadata_in-formed d) is

-- ---- endpoints

workload_interface-formed : (s : List ℕ) → is_workload_interface s ≡ true → (nat_le (length s) 15 ≡ true) × (is_workload s ≡ true)
workload_interface-formed s e =
    (second_of (nat_le 1 (length s)) (nat_le (length s) 15) (first_of (has_length 1 15 s) (list_all is_name_byte s) (first_of (is_interface s) (starts_with nat_eq s (codes "cali")) e)), second_of (is_interface s) (starts_with nat_eq s (codes "cali")) e)

-- an interface of workloads, whose name isn't too long
abbrev IsFit : List ℕ → Type 0
IsFit iface = (nat_le (length iface) 15 ≡ true) × (is_workload iface ≡ true)

workload-formed : (path : List ℕ) (d : Data) → IfOk (workload path d) (λ w. IsFit w.iface)
unfolding workload
workload-formed path d =
    then-if P (required (text Name) path (codes "node") d) _ (λ node _.
    then-if P (optional (text Name) path (codes "orchestrator") d) _ (λ orchestrator _.
    then-if P (optional (text Name) path (codes "serviceAccountName") d) _ (λ account _.
    then-if P (required (text WorkloadInterface) path (codes "interfaceName") d) _ (λ iface iface_read.
    workload_interface-formed iface (read-if (λ (s : List ℕ). is_workload_interface s ≡ true) (required (text WorkloadInterface) path (codes "interfaceName") d) iface (required-if (λ s. is_workload_interface s ≡ true) (text WorkloadInterface) (text-formed WorkloadInterface) path (codes "interfaceName") d) iface_read)))))
  where
    P : Workload → Type 0
    P w = IsFit w.iface

endpoint_of-formed : (given : LabelMap) (namespace path : List ℕ) (d : Data) → IfOk (endpoint_of given namespace path d) (λ e. IsFit e.iface)
unfolding endpoint_of
endpoint_of-formed given namespace path d =
    then-if P (workload path d) _ (λ w workload_read.
    then-if P (holdings path d) _ (λ held _.
    read-if (λ (w : Workload). IsFit w.iface) (workload path d) w (workload-formed path d) workload_read))
  where
    P : Endpoint → Type 0
    P e = IsFit e.iface

endpoint_in-formed : (given : LabelMap) (namespace : List ℕ) (d : Data) → IfOk (endpoint_in given namespace d) (λ e. IsFit e.iface)
unfolding endpoint_in
endpoint_in-formed given namespace d = then-if (λ e. IsFit e.iface) (section (codes "spec") (codes "spec") d) _ (λ spec _. endpoint_of-formed given namespace (codes "spec") spec)

pub endpoint_put-formed : (d : Data) → IfOk (endpoint_put d) IsTakable
unfolding endpoint_put
endpoint_put-formed d =
    then-if IsTakable (metadata_in d) _ (λ about about_read.
    then-if IsTakable (endpoint_in about.labels about.named.ns d) _ (λ endpoint endpoint_read.
    takable about.named endpoint
    (in_namespace-formed d about about_read)
    (read-if (λ (e : Endpoint). IsFit e.iface) (endpoint_in about.labels about.named.ns d) endpoint (endpoint_in-formed about.labels about.named.ns d) endpoint_read)))
  where
    takable : (named : NamespacedName) (e : Endpoint) → is_formed_namespace named.ns ≡ true → IsFit e.iface → IsTakable (update.Put (endpoint_key named) (item.Endpoint e))
    takable named e key_formed fit = (
      both (is_formed_key (endpoint_key named)) (is_formed_endpoint e) key_formed fit.0,
      λ node. implied (bytes_eq e.node node) (is_workload e.iface) fit.1,
      refl,
    )

-- ---- network sets

pub net_set_put-formed : (d : Data) → IfOk (net_set_put d) IsTakable
unfolding net_set_put
net_set_put-formed d =
    then-if IsTakable (metadata_in d) _ (λ about about_read.
    then-if IsTakable (nets_in d) _ (λ nets _.
    (both (is_formed_namespace about.named.ns) true (in_namespace-formed d about about_read) refl, λ node. refl, refl)))

pub global_set_put-formed : (d : Data) → IfOk (global_set_put d) IsTakable
unfolding global_set_put
global_set_put-formed d =
    then-if IsTakable (global_metadata_in d) _ (λ about _.
    then-if IsTakable (nets_in d) _ (λ nets _. (refl, λ node. refl, refl)))
