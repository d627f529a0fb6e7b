-- What the nodes' inputs hold of the resources, and how it changes where the resources do.
use Rattle.std.specs.Prelude.{◌≡◌, ℕ, Bool, List, Option}
use Rattle.std.specs.Ordering.{nat_cmp}
use Rattle.std.specs.Cmp.Lexicographic.{slice_cmp}
use Rattle.std.specs.FinMap as map
use Rattle.fx_names.specs.Digests.{Digest}
use Rattle.fx_selector.specs.Truth.{LabelMap}
use Rattle.fx_model.specs.contracts.ids.ItemKeyOrd.TheImpl as item_cmp
use Rattle.fx_model.specs.contracts.ids.PolicyIdOrd.TheImpl as policy_cmp
use Rattle.fx_model.specs.declared.ids.ItemKey.TheVariants as item_key
use Rattle.fx_model.specs.declared.ids.Key.{Key}
use Rattle.fx_model.specs.declared.ids.PolicyId.{PolicyId}
use Rattle.fx_model.specs.declared.policy.NetSet.{NetSet}
use Rattle.fx_model.specs.declared.policy.Policy.{Policy}
use Rattle.fx_model.specs.declared.policy.Tier.{Tier}
use Rattle.fx_model.specs.declared.resources.Endpoint.{Endpoint}
use Rattle.fx_model.specs.declared.resources.Item.{Item}
use Rattle.fx_model.specs.declared.resources.Item.TheVariants as item
use Rattle.fx_model.specs.declared.resources.Profile.{Profile}
use Rattle.fx_model.specs.declared.resources.Resources.{Resources}
use Rattle.fx_model.specs.declared.resources.Update.{Update}
use Rattle.fx_model.specs.Formed.{is_endpoint_key, is_net_set_key, is_profile_key, is_tier_key, is_policy_key}
use Rattle.fx_model.specs.Labels.{namespace_parents}
use Rattle.fx_model.specs.Resources.{after}
use Rattle.fx_label_index.specs.declared.held.Held.{Held}
use Rattle.fx_label_index.specs.declared.held.Inputs as index
use Rattle.fx_active.specs.declared.inputs.Inputs as active
use Rattle.fx_resolver.specs.declared.known.KnownEndpoint.{KnownEndpoint}
use Rattle.fx_resolver.specs.declared.inputs.Inputs as resolver
use Rattle.fx_members.specs.declared.inputs.Inputs as members
use Rattle.fx_node_laws.specs.Tied.{known_endpoint, IsTied}

-- the inputs that come from the resources alone: the index's items and parents, the rules' policies, profiles and endpoints, the
-- resolver's tiers and endpoints, and the members' items
pub record Taken : Type 0 where
  pub items : map.FinMap item_cmp.cmp-value.it Held
  pub parents : map.FinMap (slice_cmp nat_cmp) LabelMap
  pub policies : map.FinMap policy_cmp.cmp-value.it Policy
  pub profiles : map.FinMap (slice_cmp nat_cmp) Profile
  pub endpoints : map.FinMap item_cmp.cmp-value.it (List (List ℕ))
  pub tiers : map.FinMap (slice_cmp nat_cmp) Tier
  pub locals : map.FinMap item_cmp.cmp-value.it KnownEndpoint
  pub contributors : map.FinMap item_cmp.cmp-value.it Item

abbrev pub taken : index.Inputs → active.Inputs → resolver.Inputs → members.Inputs → Taken
taken n a r m = record {
  items = n.items;
  parents = n.parents;
  policies = a.policies;
  profiles = a.profiles;
  endpoints = a.endpoints;
  tiers = r.tiers;
  locals = r.endpoints;
  contributors = m.items;
}

-- ---- endpoints and network sets

-- an endpoint is put that is served
abbrev pub with_served_endpoint : Digest → List ℕ → List ℕ → Endpoint → Taken → Taken
with_served_endpoint dg ns name e t = record t {
  items = map.insert t.items (item_key.Endpoint ns name) (record { labels = e.labels; parents = e.profiles });
  endpoints = map.insert t.endpoints (item_key.Endpoint ns name) e.profiles;
  locals = map.insert t.locals (item_key.Endpoint ns name) (known_endpoint dg e);
  contributors = map.insert t.contributors (item_key.Endpoint ns name) (item.Endpoint e);
}

-- an endpoint is put that isn't served
abbrev pub with_other_endpoint : List ℕ → List ℕ → Endpoint → Taken → Taken
with_other_endpoint ns name e t = record t {
  items = map.insert t.items (item_key.Endpoint ns name) (record { labels = e.labels; parents = e.profiles });
  endpoints = map.remove t.endpoints (item_key.Endpoint ns name);
  locals = map.remove t.locals (item_key.Endpoint ns name);
  contributors = map.insert t.contributors (item_key.Endpoint ns name) (item.Endpoint e);
}

abbrev pub without_endpoint : List ℕ → List ℕ → Taken → Taken
without_endpoint ns name t = record t {
  items = map.remove t.items (item_key.Endpoint ns name);
  endpoints = map.remove t.endpoints (item_key.Endpoint ns name);
  locals = map.remove t.locals (item_key.Endpoint ns name);
  contributors = map.remove t.contributors (item_key.Endpoint ns name);
}

-- a network set is put; no endpoint is served under its key
abbrev pub with_net_set : Option (List ℕ) → List ℕ → NetSet → Taken → Taken
with_net_set ns name s t = record t {
  items = map.insert t.items (item_key.NetSet ns name) (record { labels = s.labels; parents = namespace_parents ns });
  endpoints = map.remove t.endpoints (item_key.NetSet ns name);
  contributors = map.insert t.contributors (item_key.NetSet ns name) (item.NetSet s);
}

abbrev pub without_net_set : Option (List ℕ) → List ℕ → Taken → Taken
without_net_set ns name t = record t {
  items = map.remove t.items (item_key.NetSet ns name);
  endpoints = map.remove t.endpoints (item_key.NetSet ns name);
  contributors = map.remove t.contributors (item_key.NetSet ns name);
}

-- ---- profiles, tiers and policies

abbrev pub with_profile : List ℕ → Profile → Taken → Taken
with_profile name p t = record t { parents = map.insert t.parents name p.labels; profiles = map.insert t.profiles name p }

abbrev pub without_profile : List ℕ → Taken → Taken
without_profile name t = record t { parents = map.remove t.parents name; profiles = map.remove t.profiles name }

abbrev pub with_tier : List ℕ → Tier → Taken → Taken
with_tier name tier t = record t { tiers = map.insert t.tiers name tier }

abbrev pub without_tier : List ℕ → Taken → Taken
without_tier name t = record t { tiers = map.remove t.tiers name }

abbrev pub with_policy : PolicyId → Policy → Taken → Taken
with_policy id p t = record t { policies = map.insert t.policies id p }

abbrev pub without_policy : PolicyId → Taken → Taken
without_policy id t = record t { policies = map.remove t.policies id }

-- ---- in sync

-- endpoints come into service
abbrev pub with_endpoints : map.FinMap item_cmp.cmp-value.it (List (List ℕ)) → map.FinMap item_cmp.cmp-value.it KnownEndpoint → Taken → Taken
with_endpoints endpoints locals t = record t { endpoints = endpoints; locals = locals }

-- ---- what an update asks of the nodes

-- Where the nodes' inputs are those of the resources, and change so, they are those of the resources after the update.
abbrev pub KeepsTies : Digest → Resources → Update → (Taken → Taken) → Type 0
KeepsTies dg R u change =
    (n : index.Inputs) (a : active.Inputs) (r : resolver.Inputs) (m : members.Inputs)
    (n_now : index.Inputs) (a_now : active.Inputs) (r_now : resolver.Inputs) (m_now : members.Inputs)
    → IsTied dg R n a r m → taken n_now a_now r_now m_now ≡ change (taken n a r m) → IsTied dg (after R u) n_now a_now r_now m_now

-- the item of a put is of its key's kind
abbrev pub is_of_kind : Key → Item → Bool
is_of_kind k (item.Endpoint e) = is_endpoint_key k
is_of_kind k (item.Profile p) = is_profile_key k
is_of_kind k (item.Tier t) = is_tier_key k
is_of_kind k (item.Policy p) = is_policy_key k
is_of_kind k (item.NetSet s) = is_net_set_key k
