-- The fields that an EndpointSlice has beside its `metadata`, as Kubernetes' API reference has them
-- (`discovery.k8s.io/v1`). Members that aren't named here are ignored, and so are the conditions of endpoints.
use Rattle.std.specs.Prelude.{ℕ, List, [], if◌then◌else◌, Option, Some, None, option_map, option_and_then, Result, Ok, Err, codes}
use Rattle.std.specs.Str.{bytes_eq}
use Rattle.serde_json.specs.Data.{Data}
use Rattle.serde_json.specs.Find.{as_str, as_array}
use Rattle.fx_base.specs.declared.net.Ipv4.{Ipv4}
use Rattle.fx_base.specs.declared.net.Proto.{Proto}
use Rattle.fx_fields.specs.declared.fault.ReadFault.{ReadFault}
use Rattle.fx_fields.specs.declared.fault.ReadFault.TheVariants.{MissingField}
use Rattle.fx_fields.specs.Fields.{◌>>=◌, Reader, field, formed, defaulted, optional, object_at, items, items_from}
use Rattle.fx_fields.specs.Values.{whole, tcp, address}
use Rattle.fx_json.specs.Ports.{port_protocol}
use Rattle.fx_services.specs.declared.slice_fields.AddressType.{AddressType}
use Rattle.fx_services.specs.declared.slice_fields.AddressType.TheVariants as of_type
use Rattle.fx_services.specs.declared.slice_fields.SlicePort.{SlicePort}

-- ---- members of the whole resource

-- the member of this name, which has to be there
unfoldable pub required_here : {A : Type 0} → Reader A → List ℕ → Data → Result A ReadFault
required_here {A = A} read key d = of_member (field key d)
  where
    of_member : Option Data → Result A ReadFault
    of_member None = Err (MissingField key)
    of_member (Some v) = read key v

-- the items of a list
abbrev pub items_in : {A : Type 0} → Reader A → Reader (List A)
items_in read path d = formed path (as_array d) >>= items_from read path 0

-- the list of this name, item by item; it is empty where it is absent
unfoldable pub items_here : {A : Type 0} → Reader A → List ℕ → Data → Result (List A) ReadFault
items_here {A = A} read key d = of_member (field key d)
  where
    of_member : Option Data → Result (List A) ReadFault
    of_member None = Ok []
    of_member (Some v) = items_in read key v

-- ---- addresses

abbrev pub address_type_named : List ℕ → Option AddressType
address_type_named s =
    if bytes_eq s (codes "IPv4") then Some of_type.Ipv4
    else (if bytes_eq s (codes "IPv6") then Some of_type.Ipv6
    else (if bytes_eq s (codes "FQDN") then Some of_type.Fqdn else None))

abbrev pub address_type : Reader AddressType
address_type path d = formed path (option_and_then address_type_named (as_str d))

-- a text that isn't read further
abbrev pub some_text : Reader (Unit {0})
some_text path d = formed path (option_map (λ s. tt) (as_str d))

-- addresses of another type give nothing
unfoldable pub no_addresses : Reader (List Ipv4)
no_addresses path d = do
  _ ← items some_text path (codes "addresses") d
  Ok []

-- the addresses of IPv4 that an endpoint has
abbrev pub addresses_at : AddressType → Reader (List Ipv4)
addresses_at of_type.Ipv4 path d = items address path (codes "addresses") d
addresses_at of_type.Ipv6 path d = no_addresses path d
addresses_at of_type.Fqdn path d = no_addresses path d

unfoldable pub slice_addresses : AddressType → Reader (List Ipv4)
slice_addresses kind path d = object_at path d >>= addresses_at kind path

-- ---- ports

abbrev pub with_number : Proto → Option ℕ → Option SlicePort
with_number proto number = option_map (λ n. record { proto = proto; number = n }) number

-- a port's number and its protocol; an entry without a number gives nothing
unfoldable pub port_fields : Reader (Option SlicePort)
port_fields path d = do
  number ← optional (whole 1 65535) path (codes "port") d
  proto ← defaulted tcp port_protocol path (codes "protocol") d
  Ok (with_number proto number)

unfoldable pub slice_port : Reader (Option SlicePort)
slice_port path d = object_at path d >>= port_fields path
