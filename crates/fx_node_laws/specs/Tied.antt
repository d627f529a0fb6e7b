-- The nodes' inputs are those of the resources.
use Rattle.std.specs.Prelude.{◌≡◌, ℕ, true, cond, List, map as each, Option, Some, None, option_map}
use Rattle.std.specs.FinMap as map
use Rattle.fx_names.specs.Digests.{Digest}
use Rattle.fx_model.specs.declared.ids.ItemKey.{ItemKey}
use Rattle.fx_model.specs.declared.ids.Key.TheVariants as key
use Rattle.fx_model.specs.declared.policy.NetSet.{NetSet}
use Rattle.fx_model.specs.declared.resources.Endpoint.{Endpoint}
use Rattle.fx_model.specs.declared.resources.Item.{Item}
use Rattle.fx_model.specs.declared.resources.Resources.{Resources}
use Rattle.fx_model.specs.Formed.{is_endpoint_key, is_net_set_key}
use Rattle.fx_model.specs.Labels.{labelled}
use Rattle.fx_model.specs.Resources.{is_served}
use Rattle.fx_model.specs.Views.{profile_key}
use Rattle.fx_model.specs.Tests.{item_at}
use Rattle.fx_label_index.specs.declared.held.Held.{Held}
use Rattle.fx_label_index.specs.declared.held.Inputs as index
use Rattle.fx_active.specs.declared.inputs.Inputs as active
use Rattle.fx_resolver.specs.declared.known.KnownEndpoint.{KnownEndpoint}
use Rattle.fx_resolver.specs.declared.inputs.Inputs as resolver
use Rattle.fx_members.specs.declared.inputs.Inputs as members

-- what the index holds of an item: its labels, and the names of its parents
abbrev pub held_of : ItemKey → Option Item → Option Held
held_of k None = None
held_of k (Some x) = Some (record { labels = (labelled k x).labels; parents = (labelled k x).parents })

-- the profiles that an endpoint lists, if it is served
abbrev pub served_profiles : Resources → Option Endpoint → Option (List (List ℕ))
served_profiles R None = None
served_profiles R (Some e) = cond (is_served R e) (Some e.profiles) None

-- what the resolver knows of an endpoint: its interface, and the keys of the profiles that it lists
abbrev pub known_endpoint : Digest → Endpoint → KnownEndpoint
known_endpoint dg e = record { iface = e.iface; profiles = each (profile_key dg) e.profiles }

-- the same, if it is served
abbrev pub served_known : Digest → Resources → Option Endpoint → Option KnownEndpoint
served_known dg R None = None
served_known dg R (Some e) = cond (is_served R e) (Some (known_endpoint dg e)) None

-- Items and parents are those of all endpoints, network sets and profiles, while the rules' endpoints and the resolver's are those
-- that are served.
pub record IsTied (dg : Digest) (R : Resources) (n : index.Inputs) (a : active.Inputs) (r : resolver.Inputs) (m : members.Inputs) : Type 0 where
  pub kinds_endpoints : (k : ItemKey) (e : Endpoint) → map.get R.endpoints k ≡ Some e → is_endpoint_key (key.Item k) ≡ true
  pub kinds_sets : (k : ItemKey) (s : NetSet) → map.get R.net_sets k ≡ Some s → is_net_set_key (key.Item k) ≡ true
  pub items : (k : ItemKey) → map.get n.items k ≡ held_of k (item_at R k)
  pub parents : (name : List ℕ) → map.get n.parents name ≡ option_map (λ p. p.labels) (map.get R.profiles name)
  pub policies : a.policies ≡ R.policies
  pub profiles : a.profiles ≡ R.profiles
  pub endpoints : (k : ItemKey) → map.get a.endpoints k ≡ served_profiles R (map.get R.endpoints k)
  pub tiers : r.tiers ≡ R.tiers
  pub locals : (k : ItemKey) → map.get r.endpoints k ≡ served_known dg R (map.get R.endpoints k)
  pub contributors : (k : ItemKey) → map.get m.items k ≡ item_at R k
