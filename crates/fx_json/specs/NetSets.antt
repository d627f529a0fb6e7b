-- A NetworkSet or a GlobalNetworkSet, field by field in the order of Calico's resource reference (`projectcalico.org/v3`).
-- Members that aren't named here are ignored.
use Rattle.std.specs.Prelude.{ℕ, List, Some, None, Result, Ok, codes}
use Rattle.std.specs.List.{filter_map}
use Rattle.serde_json.specs.Data.{Data}
use Rattle.fx_base.specs.declared.net.Net.{Net}
use Rattle.fx_selector.specs.Truth.{LabelMap}
use Rattle.fx_model.specs.declared.ids.ItemKey.TheVariants as item_key
use Rattle.fx_model.specs.declared.ids.Key.{Key}
use Rattle.fx_model.specs.declared.ids.Key.TheVariants as key
use Rattle.fx_model.specs.declared.policy.NetSet.{NetSet}
use Rattle.fx_model.specs.declared.resources.Item.TheVariants as item
use Rattle.fx_model.specs.declared.resources.Update.{Update}
use Rattle.fx_model.specs.declared.resources.Update.TheVariants as update
use Rattle.fx_fields.specs.declared.fault.ReadFault.{ReadFault}
use Rattle.fx_fields.specs.declared.names.NamespacedName.{NamespacedName}
use Rattle.fx_fields.specs.Fields.{◌>>=◌, Reader, section, items}
use Rattle.fx_fields.specs.Values.{net}
use Rattle.fx_fields.specs.Nets.{ipv4}
use Rattle.fx_fields.specs.Labels.{in_namespace}
use Rattle.fx_fields.specs.Metadata.{metadata_in, global_metadata_in}

-- ---- keys

abbrev pub net_set_key : NamespacedName → Key
net_set_key named = key.Item (item_key.NetSet (Some named.ns) named.name)

abbrev pub global_set_key : List ℕ → Key
global_set_key name = key.Item (item_key.NetSet None name)

-- ---- sets

-- the nets of IPv4 that `spec` holds
unfoldable pub nets_of : Reader (List Net)
nets_of path spec = do
  nets ← items net path (codes "nets") spec
  Ok (filter_map ipv4 nets)

unfoldable pub nets_in : Data → Result (List Net) ReadFault
nets_in d = do
  spec ← section (codes "spec") (codes "spec") d
  nets_of (codes "spec") spec

abbrev pub net_set : LabelMap → List Net → NetSet
net_set labels nets = record { labels = labels; nets = nets }

-- ---- puts

-- one of a namespace, whose label Calico sets
unfoldable pub net_set_put : Data → Result Update ReadFault
net_set_put d = do
  about ← metadata_in d
  nets ← nets_in d
  Ok (update.Put (net_set_key about.named) (item.NetSet (net_set (in_namespace about.named.ns about.labels) nets)))

-- one of no namespace
unfoldable pub global_set_put : Data → Result Update ReadFault
global_set_put d = do
  about ← global_metadata_in d
  nets ← nets_in d
  Ok (update.Put (global_set_key about.name) (item.NetSet (net_set about.labels nets)))
