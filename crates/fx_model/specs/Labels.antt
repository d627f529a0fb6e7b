-- Effective labels of items: of endpoints and network sets. From Calico's resource reference (`projectcalico.org/v3`), Profile,
-- `labelsToApply`: an endpoint inherits the labels of the profiles that it lists, and a network set those of its namespace's profile.
-- An item's own labels win; else the first parent that is there and has the key.
use Rattle.std.specs.Prelude.{ℕ, List, [], ◌∷◌, ◌++◌, codes, Option, Some, None, option_map}
use Rattle.std.specs.FinMap as maps
use Rattle.fx_base.specs.Extended.{extended}
use Rattle.fx_selector.specs.Truth.{LabelMap}
use Rattle.fx_model.specs.declared.ids.ItemKey.{ItemKey}
use Rattle.fx_model.specs.declared.ids.ItemKey.TheVariants as key
use Rattle.fx_model.specs.declared.policy.NetSet.{NetSet}
use Rattle.fx_model.specs.declared.resources.Endpoint.{Endpoint}
use Rattle.fx_model.specs.declared.resources.Item.{Item}
use Rattle.fx_model.specs.declared.resources.Item.TheVariants as item
use Rattle.fx_model.specs.declared.resources.Resources.{Resources}

-- the first labels, put over the others
abbrev pub over : LabelMap → LabelMap → LabelMap
over m n = extended n (maps.entries m)

abbrev pub over_others : Option LabelMap → LabelMap → LabelMap
over_others None n = n
over_others (Some m) n = over m n

-- what these parents give together; one that isn't there gives nothing
abbrev pub inherited : (List ℕ → Option LabelMap) → List (List ℕ) → LabelMap
inherited parents [] = maps.empty
inherited parents (name ∷ names) = over_others (parents name) (inherited parents names)

abbrev pub effective : (List ℕ → Option LabelMap) → LabelMap → List (List ℕ) → LabelMap
effective parents own names = over own (inherited parents names)

-- what counts of an item: its own labels, and the names of its parents
pub record Labelled : Type 0 where
  pub labels : LabelMap
  pub parents : List (List ℕ)

-- an endpoint's parents are the profiles that it lists
abbrev pub of_endpoint : Endpoint → Labelled
of_endpoint e = record { labels = e.labels; parents = e.profiles }

-- a network set's parent is its namespace's profile; a global one has none
abbrev pub namespace_parents : Option (List ℕ) → List (List ℕ)
namespace_parents None = []
namespace_parents (Some ns) = (codes "kns." ++ ns) ∷ []

abbrev pub of_net_set : Option (List ℕ) → NetSet → Labelled
of_net_set ns s = record { labels = s.labels; parents = namespace_parents ns }

-- a network set's namespace, which a global one has not
abbrev pub set_namespace : ItemKey → Option (List ℕ)
set_namespace (key.Endpoint ns name) = None
set_namespace (key.NetSet ns name) = ns

abbrev pub unlabelled : Labelled
unlabelled = record { labels = maps.empty; parents = [] }

-- only endpoints and network sets have labels
abbrev pub labelled : ItemKey → Item → Labelled
labelled k (item.Endpoint e) = of_endpoint e
labelled k (item.NetSet s) = of_net_set (set_namespace k) s
labelled k (item.Profile p) = unlabelled
labelled k (item.Tier t) = unlabelled
labelled k (item.Policy p) = unlabelled

abbrev pub effective_labels : Resources → Labelled → LabelMap
effective_labels R x = effective (λ name. option_map (λ p. p.labels) (maps.get R.profiles name)) x.labels x.parents

-- an item's effective labels
abbrev pub labels_of : Resources → ItemKey × Item → LabelMap
labels_of R x = effective_labels R (labelled x.0 x.1)
