-- What a Namespace and a ServiceAccount of Kubernetes' API reference (`v1`) are as profiles of Calico (`projectcalico.org/v3`): their
-- pods inherit their labels under `pcns.` and `pcsa.`, and a namespace allows all that no policy isolates its pods from. Members that
-- aren't named here are ignored.
use Rattle.std.specs.Prelude.{List, [], ◌∷◌, false, None, Result, Ok, codes}
use Rattle.serde_json.specs.Data.{Data}
use Rattle.fx_selector.specs.Prefixed.{prefixed}
use Rattle.fx_selector.specs.Truth.{LabelMap}
use Rattle.fx_model.specs.declared.resources.Item.TheVariants as item
use Rattle.fx_model.specs.declared.resources.Profile.{Profile}
use Rattle.fx_model.specs.declared.resources.Update.{Update}
use Rattle.fx_model.specs.declared.resources.Update.TheVariants as update
use Rattle.fx_model.specs.declared.rules.Rule.{Rule}
use Rattle.fx_fields.specs.declared.fault.ReadFault.{ReadFault}
use Rattle.fx_fields.specs.Fields.{◌>>=◌}
use Rattle.fx_fields.specs.Metadata.{metadata_in, global_metadata_in}
use Rattle.fx_json.specs.Kubernetes.{namespace_key, account_key}
use Rattle.fx_k8s.specs.Conversion.{open_side, rule_of}

-- ---- namespaces

abbrev pub allow_all : List Rule
allow_all = rule_of false None open_side open_side ∷ []

abbrev pub namespace_profile : LabelMap → Profile
namespace_profile labels = record { labels = prefixed (codes "pcns.") labels; ingress = allow_all; egress = allow_all }

unfoldable pub namespace_put : Data → Result Update ReadFault
namespace_put d = do
  about ← global_metadata_in d
  Ok (update.Put (namespace_key about.name) (item.Profile (namespace_profile about.labels)))

-- ---- service accounts

abbrev pub account_profile : LabelMap → Profile
account_profile labels = record { labels = prefixed (codes "pcsa.") labels; ingress = []; egress = [] }

unfoldable pub account_put : Data → Result Update ReadFault
account_put d = do
  about ← metadata_in d
  Ok (update.Put (account_key about.named) (item.Profile (account_profile about.labels)))
