-- EndpointSlices, as Kubernetes' API reference has them (`discovery.k8s.io/v1`), and the record of an endpoint that one
-- becomes: it runs on no node and has no interface, so that it is never local, and its one label is that of its
-- service.
use Rattle.std.specs.Prelude.{ℕ, List, [], map, Bool, false, ◌&&◌, Option, Some, None, Result, Ok, codes}
use Rattle.std.specs.List.{flat_map, filter_map}
use Rattle.std.specs.Str.{bytes_eq}
use Rattle.std.specs.FinMap as maps
use Rattle.serde_json.specs.Data.{Data}
use Rattle.fx_base.specs.declared.net.Ipv4.{Ipv4}
use Rattle.fx_selector.specs.Truth.{LabelMap}
use Rattle.fx_model.specs.declared.ids.ItemKey.{ItemKey}
use Rattle.fx_model.specs.declared.ids.ItemKey.TheVariants as item_key
use Rattle.fx_model.specs.declared.ids.Key.{Key}
use Rattle.fx_model.specs.declared.ids.Key.TheVariants as key
use Rattle.fx_model.specs.declared.resources.Endpoint.{Endpoint}
use Rattle.fx_model.specs.declared.resources.EndpointPort.{EndpointPort}
use Rattle.fx_model.specs.declared.resources.Item.TheVariants as item
use Rattle.fx_model.specs.declared.resources.Update.{Update}
use Rattle.fx_model.specs.declared.resources.Update.TheVariants as update
use Rattle.fx_fields.specs.declared.fault.ReadFault.{ReadFault}
use Rattle.fx_fields.specs.declared.metadata.Metadata.{Metadata}
use Rattle.fx_fields.specs.declared.names.NamespacedName.{NamespacedName}
use Rattle.fx_fields.specs.Fields.{◌>>=◌}
use Rattle.fx_fields.specs.Kinds.{text_at}
use Rattle.fx_fields.specs.Metadata.{metadata_in}
use Rattle.fx_fields.specs.Names.{namespaced_name_in}
use Rattle.fx_services.specs.declared.slice_fields.SlicePort.{SlicePort}
use Rattle.fx_services.specs.declared.slices.Slice.{Slice}
use Rattle.fx_services.specs.Marks.{mark, star, full_name}
use Rattle.fx_services.specs.SliceFields.{required_here, items_here, address_type, slice_addresses, slice_port}

-- ---- the kind

abbrev pub is_slice_kind : List ℕ → List ℕ → Bool
is_slice_kind version kind = bytes_eq version (codes "discovery.k8s.io/v1") && bytes_eq kind (codes "EndpointSlice")

abbrev pub is_slice : Data → Bool
is_slice d = of_texts (text_at (codes "apiVersion") d) (text_at (codes "kind") d)
  where
    of_texts : Option (List ℕ) → Option (List ℕ) → Bool
    of_texts None kind = false
    of_texts (Some version) None = false
    of_texts (Some version) (Some kind) = is_slice_kind version kind

-- ---- a slice

-- the service that a label names
abbrev pub service_in : LabelMap → Option (List ℕ)
service_in labels = maps.get labels (codes "kubernetes.io/service-name")

-- the addresses of all endpoints and the ports of all entries
abbrev pub slice_with : Metadata → List (List Ipv4) → List (Option SlicePort) → Slice
slice_with about endpoints ports = record {
  named = about.named;
  service = service_in about.labels;
  addresses = flat_map (λ addresses. addresses) endpoints;
  ports = filter_map (λ port. port) ports;
}

unfoldable pub slice_of : Data → Result Slice ReadFault
slice_of d = do
  about ← metadata_in d
  addresses ← required_here address_type (codes "addressType") d
  endpoints ← items_here (slice_addresses addresses) (codes "endpoints") d
  ports ← items_here slice_port (codes "ports") d
  Ok (slice_with about endpoints ports)

-- ---- the record

abbrev pub slice_item_key : NamespacedName → ItemKey
slice_item_key named = item_key.Endpoint star (full_name named.ns named.name)

abbrev pub slice_key : NamespacedName → Key
slice_key named = key.Item (slice_item_key named)

-- it is empty where the slice belongs to no service
abbrev pub label_of : List ℕ → Option (List ℕ) → List ℕ
label_of ns None = []
label_of ns (Some service) = full_name ns service

abbrev pub service_label : Slice → List ℕ
service_label s = label_of s.named.ns s.service

abbrev pub slice_labels : Slice → LabelMap
slice_labels s = maps.insert maps.empty mark (service_label s)

abbrev pub named_port : SlicePort → EndpointPort
named_port p = record { name = star; proto = p.proto; number = p.number }

abbrev pub slice_ports : List SlicePort → List EndpointPort
slice_ports ports = map named_port ports

abbrev pub slice_record : Slice → Endpoint
slice_record s = record {
  node = [];
  iface = [];
  labels = slice_labels s;
  addresses = s.addresses;
  profiles = [];
  ports = slice_ports s.ports;
}

abbrev pub put_of_slice : Slice → Update
put_of_slice s = update.Put (slice_key s.named) (item.Endpoint (slice_record s))

-- ---- puts and deletes

unfoldable pub slice_put : Data → Result Update ReadFault
slice_put d = do
  slice ← slice_of d
  Ok (put_of_slice slice)

unfoldable pub slice_delete : Data → Result Update ReadFault
slice_delete d = do
  named ← namespaced_name_in d
  Ok (update.Delete (slice_key named))
