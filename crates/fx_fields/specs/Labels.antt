-- Labels, which are an object of texts, and those that Calico sets itself. From Calico's resource reference
-- (`projectcalico.org/v3`).
use Rattle.std.specs.Prelude.{ℕ, List, Option, Some, None, option_and_then, Result, codes}
use Rattle.std.specs.FinMap as maps
use Rattle.serde_json.specs.Data.{Data, null, boolean, number, string, array, object, Members, no_members, member}
use Rattle.serde_json.specs.Find.{as_object}
use Rattle.fx_selector.specs.Truth.{LabelMap}
use Rattle.fx_fields.specs.declared.fault.ReadFault.{ReadFault}
use Rattle.fx_fields.specs.Fields.{Reader, formed, defaulted}

-- ---- an object of texts

-- one more label, whose value is a text
abbrev pub with_label : List ℕ → Data → LabelMap → Option LabelMap
with_label k null m = Some m
with_label k (boolean b) m = None
with_label k (number n) m = None
with_label k (string s) m = Some (maps.insert m k s)
with_label k (array ds) m = None
with_label k (object ms) m = None

-- these members as labels, beside those that are there
abbrev pub with_labels : Members → LabelMap → Option LabelMap
with_labels no_members m = Some m
with_labels (member k d ms) m = option_and_then (with_labels ms) (with_label k d m)

-- labels are an object of texts
abbrev pub labels_in : Data → Option LabelMap
labels_in d = option_and_then (λ ms. with_labels ms maps.empty) (as_object d)

abbrev pub labels : Reader LabelMap
labels path d = formed path (labels_in d)

-- the labels of this name, none where it is absent
unfoldable pub labels_at : List ℕ → List ℕ → Data → Result LabelMap ReadFault
labels_at = defaulted maps.empty labels

-- ---- labels that Calico sets

-- the label of a namespace, over any that is given
abbrev pub in_namespace : List ℕ → LabelMap → LabelMap
in_namespace namespace given = maps.insert given (codes "projectcalico.org/namespace") namespace

-- a label over one of the same key, where its value is given
abbrev pub with_given : List ℕ → Option (List ℕ) → LabelMap → LabelMap
with_given k None m = m
with_given k (Some v) m = maps.insert m k v

-- An endpoint's own labels. Calico sets those of its namespace, service account and orchestrator, whatever else is given for them.
unfoldable pub own_labels : LabelMap → List ℕ → Option (List ℕ) → Option (List ℕ) → LabelMap
own_labels given namespace account orchestrator =
    with_given (codes "projectcalico.org/orchestrator") orchestrator
    (with_given (codes "projectcalico.org/serviceaccount") account
    (in_namespace namespace given))
