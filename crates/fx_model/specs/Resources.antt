-- The resources of a node, and what an update makes of them. From Calico's resource reference (`projectcalico.org/v3`):
-- a workload endpoint runs on the node that `spec.node` names, and a put replaces the resource of its key,
-- and a delete removes it. Items are what selectors select: endpoints and network sets.
use Rattle.std.specs.Prelude.{ℕ, List, ◌++◌, Bool, true, false, ◌&&◌, filter, map as each}
use Rattle.std.specs.Str.{bytes_eq}
use Rattle.std.specs.FinMap as map
use Rattle.fx_model.specs.declared.ids.ItemKey.{ItemKey}
use Rattle.fx_model.specs.declared.ids.ItemKey.TheVariants as item_key
use Rattle.fx_model.specs.declared.ids.Key.{Key}
use Rattle.fx_model.specs.declared.ids.Key.TheVariants as key
use Rattle.fx_model.specs.declared.policy.NetSet.{NetSet}
use Rattle.fx_model.specs.declared.policy.Policy.{Policy}
use Rattle.fx_model.specs.declared.policy.Tier.{Tier}
use Rattle.fx_model.specs.declared.resources.Endpoint.{Endpoint}
use Rattle.fx_model.specs.declared.resources.Profile.{Profile}
use Rattle.fx_model.specs.declared.resources.Item.{Item}
use Rattle.fx_model.specs.declared.resources.Item.TheVariants as item
use Rattle.fx_model.specs.declared.resources.Update.{Update}
use Rattle.fx_model.specs.declared.resources.Update.TheVariants as update
use Rattle.fx_model.specs.declared.resources.Resources.{Resources}

-- no resources yet, and not in sync
abbrev pub empty_resources : List ℕ → Resources
empty_resources node = record {
  node = node;
  in_sync = false;
  endpoints = map.empty;
  net_sets = map.empty;
  profiles = map.empty;
  tiers = map.empty;
  policies = map.empty;
}

-- a put at a key; an item of another kind than the key changes nothing
abbrev pub put_endpoint : Resources → Key → Endpoint → Resources
put_endpoint R (key.Item (item_key.Endpoint ns name)) e = record R { endpoints = map.insert R.endpoints (item_key.Endpoint ns name) e }
put_endpoint R (key.Item (item_key.NetSet ns name)) e = R
put_endpoint R (key.Profile name) e = R
put_endpoint R (key.Tier name) e = R
put_endpoint R (key.Policy id) e = R

abbrev pub put_profile : Resources → Key → Profile → Resources
put_profile R (key.Item k) p = R
put_profile R (key.Profile name) p = record R { profiles = map.insert R.profiles name p }
put_profile R (key.Tier name) p = R
put_profile R (key.Policy id) p = R

abbrev pub put_tier : Resources → Key → Tier → Resources
put_tier R (key.Item k) t = R
put_tier R (key.Profile name) t = R
put_tier R (key.Tier name) t = record R { tiers = map.insert R.tiers name t }
put_tier R (key.Policy id) t = R

abbrev pub put_policy : Resources → Key → Policy → Resources
put_policy R (key.Item k) p = R
put_policy R (key.Profile name) p = R
put_policy R (key.Tier name) p = R
put_policy R (key.Policy id) p = record R { policies = map.insert R.policies id p }

abbrev pub put_net_set : Resources → Key → NetSet → Resources
put_net_set R (key.Item (item_key.Endpoint ns name)) s = R
put_net_set R (key.Item (item_key.NetSet ns name)) s = record R { net_sets = map.insert R.net_sets (item_key.NetSet ns name) s }
put_net_set R (key.Profile name) s = R
put_net_set R (key.Tier name) s = R
put_net_set R (key.Policy id) s = R

abbrev pub after_put : Resources → Key → Item → Resources
after_put R k (item.Endpoint e) = put_endpoint R k e
after_put R k (item.Profile p) = put_profile R k p
after_put R k (item.Tier t) = put_tier R k t
after_put R k (item.Policy p) = put_policy R k p
after_put R k (item.NetSet s) = put_net_set R k s

-- a delete; to delete what isn't there changes nothing
abbrev pub after_delete : Resources → Key → Resources
after_delete R (key.Item (item_key.Endpoint ns name)) = record R { endpoints = map.remove R.endpoints (item_key.Endpoint ns name) }
after_delete R (key.Item (item_key.NetSet ns name)) = record R { net_sets = map.remove R.net_sets (item_key.NetSet ns name) }
after_delete R (key.Profile name) = record R { profiles = map.remove R.profiles name }
after_delete R (key.Tier name) = record R { tiers = map.remove R.tiers name }
after_delete R (key.Policy id) = record R { policies = map.remove R.policies id }

-- the resources after an update
abbrev pub after : Resources → Update → Resources
after R update.InSync = record R { in_sync = true }
after R (update.Put k x) = after_put R k x
after R (update.Delete k) = after_delete R k

-- an endpoint that runs on this node
abbrev pub is_local : Resources → Endpoint → Bool
is_local R e = bytes_eq e.node R.node

-- before the datastore is in sync, no endpoint is served
abbrev pub is_served : Resources → Endpoint → Bool
is_served R e = R.in_sync && is_local R e

-- the endpoints that are served, by their keys
abbrev pub served_endpoints : Resources → List (ItemKey × Endpoint)
served_endpoints R = filter (λ x. is_served R x.1) (map.entries R.endpoints)

-- the endpoints and the network sets, by their keys
abbrev pub items_of : Resources → List (ItemKey × Item)
items_of R =
    each (λ x. (x.0, item.Endpoint x.1)) (map.entries R.endpoints) ++ each (λ x. (x.0, item.NetSet x.1)) (map.entries R.net_sets)
