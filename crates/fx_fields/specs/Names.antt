-- How resources are named: by `metadata.name`, and those of a namespace by `metadata.namespace` beside it. From
-- Calico's resource reference (`projectcalico.org/v3`) and Kubernetes' names of objects.
use Rattle.std.specs.Prelude.{ℕ, List, Result, Ok, codes}
use Rattle.serde_json.specs.Data.{Data}
use Rattle.fx_fields.specs.declared.fault.ReadFault.{ReadFault}
use Rattle.fx_fields.specs.declared.names.NamespacedName.{NamespacedName}
use Rattle.fx_fields.specs.declared.texts.TextForm.TheVariants.{Name, Namespace}
use Rattle.fx_fields.specs.Fields.{◌>>=◌, Reader, required, section}
use Rattle.fx_fields.specs.Forms.{text}

abbrev pub name_at : Reader (List ℕ)
name_at path metadata = required (text Name) path (codes "name") metadata

-- the name and the namespace that `metadata` holds
unfoldable pub namespaced_name : Reader NamespacedName
namespaced_name path metadata = do
  name ← name_at path metadata
  namespace ← required (text Namespace) path (codes "namespace") metadata
  Ok (record { ns = namespace; name = name })

-- the name that a resource has
unfoldable pub name_in : Data → Result (List ℕ) ReadFault
name_in d = do
  metadata ← section (codes "metadata") (codes "metadata") d
  name_at (codes "metadata") metadata

-- the name and the namespace that a resource has
unfoldable pub namespaced_name_in : Data → Result NamespacedName ReadFault
namespaced_name_in d = do
  metadata ← section (codes "metadata") (codes "metadata") d
  namespaced_name (codes "metadata") metadata
