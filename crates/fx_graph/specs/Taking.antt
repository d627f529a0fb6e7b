-- What the nodes hold of the resources, how single steps change it, and when the rules that it makes active have names of their own.
use Rattle.std.specs.Prelude.{◌≡◌, ◌≤◌, ◌⊎◌, ℕ, List, length, map as each, Some}
use Rattle.std.specs.FinMap as map
use Rattle.fx_base.specs.Extended.{extended}
use Rattle.fx_names.specs.Digests.{Digest}
use Rattle.fx_selector.specs.Truth.{LabelMap}
use Rattle.fx_model.specs.Pairs.{PolicyPairs}
use Rattle.fx_model.specs.Sinks.{Policies, Profiles}
use Rattle.fx_model.specs.declared.ids.ItemKey.{ItemKey}
use Rattle.fx_model.specs.declared.resources.Endpoint.{Endpoint}
use Rattle.fx_model.specs.declared.resources.Item.{Item}
use Rattle.fx_model.specs.declared.resources.Item.TheVariants as item
use Rattle.fx_label_index.specs.declared.held.Inputs as index
use Rattle.fx_active.specs.declared.inputs.Inputs as active
use Rattle.fx_resolver.specs.declared.known.KnownEndpoint.{KnownEndpoint}
use Rattle.fx_scanner.specs.Apart.{IsApart}
use Rattle.fx_graph_rules.specs.Composed.{IsComposed}
use Rattle.fx_node_laws.specs.Changes.{Taken, taken}
use Rattle.fx_node_laws.specs.Tied.{known_endpoint}
use Rattle.fx_node_laws.specs.Waits.{Queue, known_waiting}
use Rattle.fx_model.specs.declared.waiting.Waiting.{Waiting}
use Rattle.fx_graph.specs.declared.nodes.Nodes.{Nodes}

abbrev pub taken_of : Nodes → Taken
taken_of g = taken g.upper.joined.index g.upper.joined.active g.resolver g.members

-- ---- single steps

-- an item has these labels and parents, and is an endpoint of this node in service
abbrev pub labelled_served : ItemKey → LabelMap → List (List ℕ) → Taken → Taken
labelled_served k labels parents t = record t {
  items = map.insert t.items k (record { labels = labels; parents = parents });
  endpoints = map.insert t.endpoints k parents;
}

-- the same of any other item
abbrev pub labelled_other : ItemKey → LabelMap → List (List ℕ) → Taken → Taken
labelled_other k labels parents t = record t {
  items = map.insert t.items k (record { labels = labels; parents = parents });
  endpoints = map.remove t.endpoints k;
}

abbrev pub unlabelled : ItemKey → Taken → Taken
unlabelled k t = record t { items = map.remove t.items k; endpoints = map.remove t.endpoints k }

abbrev pub contributing : ItemKey → Item → Taken → Taken
contributing k x t = record t { contributors = map.insert t.contributors k x }

abbrev pub withdrawn : ItemKey → Taken → Taken
withdrawn k t = record t { contributors = map.remove t.contributors k }

abbrev pub with_local : ItemKey → KnownEndpoint → Taken → Taken
with_local k e t = record t { locals = map.insert t.locals k e }

abbrev pub without_local : ItemKey → Taken → Taken
without_local k t = record t { locals = map.remove t.locals k }

-- ---- items, whole

-- an endpoint is put that is in service
abbrev pub with_served : Digest → ItemKey → Endpoint → Taken → Taken
with_served dg k e t = labelled_served k e.labels e.profiles (with_local k (known_endpoint dg e) (contributing k (item.Endpoint e) t))

-- any other endpoint is put
abbrev pub with_other : ItemKey → Endpoint → Taken → Taken
with_other k e t = labelled_other k e.labels e.profiles (without_local k (contributing k (item.Endpoint e) t))

abbrev pub without_item : ItemKey → Taken → Taken
without_item k t = unlabelled k (without_local k (withdrawn k t))

-- all that waits is in service
abbrev pub serving : Queue → Taken → Taken
serving w t = record t { endpoints = extended t.endpoints (each (λ x. (x.0, x.1.profiles)) (map.entries w)) }

-- ---- names

-- the policies and profiles that this makes active have names of their own
abbrev pub AreApart : Digest → Taken → Type 0
AreApart dg t =
    (n : index.Inputs) (a : active.Inputs) (policies : Policies) (profiles : Profiles) (pairs : PolicyPairs)
    → n.items ≡ t.items → n.parents ≡ t.parents → a.policies ≡ t.policies → a.profiles ≡ t.profiles → a.endpoints ≡ t.endpoints
    → IsComposed n a policies profiles pairs → IsApart dg (record { policies = policies; profiles = profiles })

-- a kernel's names of interfaces have at most 15 bytes
abbrev pub AreShort : Queue → Type 0
AreShort w = (k : ItemKey) (x : Waiting) → map.get w k ≡ Some x → length x.iface ≤ 15

-- an endpoint is held there, or it waits
abbrev pub IsThereOrWaits : Digest → Queue → Taken → ItemKey → KnownEndpoint → Type 0
IsThereOrWaits dg w t k e = (map.get t.locals k ≡ Some e) ⊎ ((x : Waiting) × ((map.get w k ≡ Some x) × (known_waiting dg x ≡ e)))

-- no two of these have one interface
abbrev pub AreOwnTogether : Digest → Queue → Taken → Type 0
AreOwnTogether dg w t = (i j : ItemKey) (e f : KnownEndpoint) → IsThereOrWaits dg w t i e → IsThereOrWaits dg w t j f → e.iface ≡ f.iface → i ≡ j

-- what no step on rules touches: the endpoints that wait, and the view that was sent
pub record IsBeside (old new : Nodes) : Type 0 where
  pub waiting : new.waiting ≡ old.waiting
  pub sent : new.sequencer.sent ≡ old.sequencer.sent
