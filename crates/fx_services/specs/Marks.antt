-- What tells the records of slices from all others: a label whose key no resource may have, and a namespace and a name
-- of ports that no resource can have, since `*` stands in no name of Kubernetes or Calico (`projectcalico.org/v3`).
use Rattle.std.specs.Prelude.{ℕ, List, ◌++◌, Bool, true, false, not, ◌&&◌, if◌then◌else◌, Option, Some, None, is_some, is_none, Result, Ok, Err, codes}
use Rattle.std.specs.Str.{bytes_eq}
use Rattle.std.specs.FinMap as maps
use Rattle.fx_selector.specs.Truth.{LabelMap}
use Rattle.fx_model.specs.declared.ids.ItemKey.{ItemKey}
use Rattle.fx_model.specs.declared.ids.ItemKey.TheVariants as item_key
use Rattle.fx_model.specs.declared.ids.Key.{Key}
use Rattle.fx_model.specs.declared.ids.Key.TheVariants as key
use Rattle.fx_model.specs.declared.resources.Item.{Item}
use Rattle.fx_model.specs.declared.resources.Item.TheVariants as item
use Rattle.fx_model.specs.declared.resources.Update.{Update}
use Rattle.fx_model.specs.declared.resources.Update.TheVariants as update
use Rattle.fx_fields.specs.declared.fault.ReadFault.{ReadFault}
use Rattle.fx_fields.specs.declared.fault.ReadFault.TheVariants.{Unsupported}
use Rattle.fx_fields.specs.declared.kinds.KubernetesKind.{KubernetesKind}
use Rattle.fx_fields.specs.declared.kinds.KubernetesKind.TheVariants.{Namespace, ServiceAccount, NetworkPolicy}

abbrev pub mark : List ℕ
mark = codes "pcsvc"

abbrev pub star : List ℕ
star = codes "*"

-- what names something of a namespace
abbrev pub full_name : List ℕ → List ℕ → List ℕ
full_name ns name = ns ++ (codes "/" ++ name)

-- ---- the labels of other resources

-- the labels that are read of a resource
abbrev pub labels_of : Item → Option LabelMap
labels_of (item.Endpoint e) = Some e.labels
labels_of (item.NetSet s) = Some s.labels
labels_of (item.Profile p) = Some p.labels
labels_of (item.Tier t) = None
labels_of (item.Policy p) = None

-- the key that a label of the mark's key has in the record: the pods of a Namespace or a ServiceAccount have its labels
-- under a prefix
abbrev pub mark_of : Option KubernetesKind → List ℕ
mark_of None = mark
mark_of (Some Namespace) = codes "pcns.pcsvc"
mark_of (Some ServiceAccount) = codes "pcsa.pcsvc"
mark_of (Some NetworkPolicy) = mark

abbrev pub has_key : List ℕ → Option LabelMap → Bool
has_key k None = false
has_key k (Some m) = is_some (maps.get m k)

abbrev pub is_marked : Option KubernetesKind → Item → Bool
is_marked kind x = has_key (mark_of kind) (labels_of x)

-- where labels stand in a Profile of Calico, or in another resource
abbrev pub profile_labels_path : Option KubernetesKind → List ℕ
profile_labels_path None = codes "spec.labelsToApply"
profile_labels_path (Some kind) = codes "metadata.labels"

abbrev pub labels_path : Option KubernetesKind → Item → List ℕ
labels_path kind (item.Endpoint e) = codes "metadata.labels"
labels_path kind (item.NetSet s) = codes "metadata.labels"
labels_path kind (item.Profile p) = profile_labels_path kind
labels_path kind (item.Tier t) = codes "metadata.labels"
labels_path kind (item.Policy p) = codes "metadata.labels"

-- no label that is read has the key of the mark
abbrev pub unmarked_item : Option KubernetesKind → Item → Result (Unit {0}) ReadFault
unmarked_item kind x = if is_marked kind x then Err (Unsupported (labels_path kind x)) else Ok tt

abbrev pub unmarked : Option KubernetesKind → Update → Result (Unit {0}) ReadFault
unmarked kind update.InSync = Ok tt
unmarked kind (update.Put k x) = unmarked_item kind x
unmarked kind (update.Delete k) = Ok tt

-- ---- records without marks

abbrev pub is_unmarked : LabelMap → Bool
is_unmarked m = is_none (maps.get m mark)

abbrev pub is_unmarked_item : Item → Bool
is_unmarked_item (item.Endpoint e) = is_unmarked e.labels
is_unmarked_item (item.Profile p) = is_unmarked p.labels
is_unmarked_item (item.Tier t) = true
is_unmarked_item (item.Policy p) = true
is_unmarked_item (item.NetSet s) = is_unmarked s.labels

-- an item that isn't in the namespace of slices' records
abbrev pub is_other_item : ItemKey → Bool
is_other_item (item_key.Endpoint ns name) = not (bytes_eq ns star)
is_other_item (item_key.NetSet ns name) = true

abbrev pub is_other_key : Key → Bool
is_other_key (key.Item k) = is_other_item k
is_other_key (key.Profile name) = true
is_other_key (key.Tier name) = true
is_other_key (key.Policy id) = true

-- an update of records other than slices'
abbrev pub is_other_update : Update → Bool
is_other_update update.InSync = true
is_other_update (update.Put k x) = is_other_key k && is_unmarked_item x
is_other_update (update.Delete k) = is_other_key k
