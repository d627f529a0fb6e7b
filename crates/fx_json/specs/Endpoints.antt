-- A WorkloadEndpoint, field by field in the order of Calico's resource reference (`projectcalico.org/v3`). Members that
-- aren't named here are ignored.
use Rattle.std.specs.Prelude.{ℕ, List, Result, Ok, codes}
use Rattle.std.specs.List.{filter_map}
use Rattle.serde_json.specs.Data.{Data}
use Rattle.fx_selector.specs.Truth.{LabelMap}
use Rattle.fx_model.specs.declared.ids.ItemKey.TheVariants as item_key
use Rattle.fx_model.specs.declared.ids.Key.{Key}
use Rattle.fx_model.specs.declared.ids.Key.TheVariants as key
use Rattle.fx_model.specs.declared.resources.Endpoint.{Endpoint}
use Rattle.fx_model.specs.declared.resources.EndpointPort.{EndpointPort}
use Rattle.fx_model.specs.declared.resources.Item.TheVariants as item
use Rattle.fx_model.specs.declared.resources.Update.{Update}
use Rattle.fx_model.specs.declared.resources.Update.TheVariants as update
use Rattle.fx_fields.specs.declared.fault.ReadFault.{ReadFault}
use Rattle.fx_fields.specs.declared.texts.TextForm.TheVariants.{Name, WorkloadInterface, PortName}
use Rattle.fx_fields.specs.declared.names.NamespacedName.{NamespacedName}
use Rattle.fx_json.specs.declared.endpoints.Workload.{Workload}
use Rattle.fx_json.specs.declared.endpoints.Holdings.{Holdings}
use Rattle.fx_fields.specs.Forms.{text}
use Rattle.fx_fields.specs.Fields.{◌>>=◌, Reader, required, defaulted, optional, object_at, section, items}
use Rattle.fx_fields.specs.Values.{whole, tcp, host_net}
use Rattle.fx_fields.specs.Nets.{host_address}
use Rattle.fx_fields.specs.Labels.{own_labels}
use Rattle.fx_fields.specs.Metadata.{metadata_in}
use Rattle.fx_json.specs.Ports.{port_protocol}

abbrev pub endpoint_key : NamespacedName → Key
endpoint_key named = key.Item (item_key.Endpoint named.ns named.name)

-- a port's name, its protocol and its number
unfoldable pub port_fields : Reader EndpointPort
port_fields path d = do
  name ← required (text PortName) path (codes "name") d
  proto ← defaulted tcp port_protocol path (codes "protocol") d
  number ← required (whole 1 65535) path (codes "port") d
  Ok (record { name = name; proto = proto; number = number })

abbrev pub endpoint_port : Reader EndpointPort
endpoint_port path d = object_at path d >>= port_fields path

-- where a workload runs, and what it runs as
unfoldable pub workload : Reader Workload
workload path spec = do
  node ← required (text Name) path (codes "node") spec
  orchestrator ← optional (text Name) path (codes "orchestrator") spec
  account ← optional (text Name) path (codes "serviceAccountName") spec
  iface ← required (text WorkloadInterface) path (codes "interfaceName") spec
  Ok (record { node = node; orchestrator = orchestrator; account = account; iface = iface })

-- the addresses of IPv4, the profiles and the named ports
unfoldable pub holdings : Reader Holdings
holdings path spec = do
  hosts ← items host_net path (codes "ipNetworks") spec
  profiles ← items (text Name) path (codes "profiles") spec
  ports ← items endpoint_port path (codes "ports") spec
  Ok (record { addresses = filter_map host_address hosts; profiles = profiles; ports = ports })

-- the endpoint of this namespace and these labels that `spec` holds
unfoldable pub endpoint_of : LabelMap → List ℕ → Reader Endpoint
endpoint_of given namespace path spec = do
  w ← workload path spec
  held ← holdings path spec
  Ok (record {
    node = w.node;
    iface = w.iface;
    labels = own_labels given namespace w.account w.orchestrator;
    addresses = held.addresses;
    profiles = held.profiles;
    ports = held.ports;
  })

unfoldable pub endpoint_in : LabelMap → List ℕ → Data → Result Endpoint ReadFault
endpoint_in given namespace d = do
  spec ← section (codes "spec") (codes "spec") d
  endpoint_of given namespace (codes "spec") spec

unfoldable pub endpoint_put : Data → Result Update ReadFault
endpoint_put d = do
  about ← metadata_in d
  endpoint ← endpoint_in about.labels about.named.ns d
  Ok (update.Put (endpoint_key about.named) (item.Endpoint endpoint))
