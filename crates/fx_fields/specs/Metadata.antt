-- What `metadata` holds of an endpoint or a network set: what names it, and its labels. From Calico's resource reference
-- (`projectcalico.org/v3`) and Kubernetes' names of objects.
use Rattle.std.specs.Prelude.{Result, Ok, codes}
use Rattle.serde_json.specs.Data.{Data}
use Rattle.fx_fields.specs.declared.fault.ReadFault.{ReadFault}
use Rattle.fx_fields.specs.declared.metadata.Metadata.{Metadata}
use Rattle.fx_fields.specs.declared.metadata.GlobalMetadata.{GlobalMetadata}
use Rattle.fx_fields.specs.Fields.{◌>>=◌, Reader, section}
use Rattle.fx_fields.specs.Names.{name_at, namespaced_name}
use Rattle.fx_fields.specs.Labels.{labels_at}

-- the name, the namespace and the labels that `metadata` holds
unfoldable pub metadata_of : Reader Metadata
metadata_of path metadata = do
  named ← namespaced_name path metadata
  given ← labels_at path (codes "labels") metadata
  Ok (record { named = named; labels = given })

unfoldable pub metadata_in : Data → Result Metadata ReadFault
metadata_in d = do
  metadata ← section (codes "metadata") (codes "metadata") d
  metadata_of (codes "metadata") metadata

-- the same of a resource that stands in no namespace
unfoldable pub global_metadata_of : Reader GlobalMetadata
global_metadata_of path metadata = do
  name ← name_at path metadata
  given ← labels_at path (codes "labels") metadata
  Ok (record { name = name; labels = given })

unfoldable pub global_metadata_in : Data → Result GlobalMetadata ReadFault
global_metadata_in d = do
  metadata ← section (codes "metadata") (codes "metadata") d
  global_metadata_of (codes "metadata") metadata
