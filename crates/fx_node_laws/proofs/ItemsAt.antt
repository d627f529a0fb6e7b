-- The item at a key, and what is served there, after the resources have changed.
use Rattle.std.proofs.Common.{◌≡◌, cond, ◌&&◌, Option, Some, None, refl, ap}
use Rattle.std.specs.Prelude.{option_map}
use Rattle.std.specs.Str.{bytes_eq}
use Rattle.std.specs.FinMap as map
use Rattle.fx_names.specs.Digests.{Digest}
use Rattle.fx_model.specs.declared.ids.ItemKey.{ItemKey}
use Rattle.fx_model.specs.declared.ids.ItemKey.TheVariants as item_key
use Rattle.fx_model.specs.declared.resources.Endpoint.{Endpoint}
use Rattle.fx_model.specs.declared.resources.Item.TheVariants as item
use Rattle.fx_model.specs.declared.resources.Resources.{Resources}
use Rattle.fx_model.specs.Resources.{is_served}
use Rattle.fx_model.specs.Tests.{item_at}
use Rattle.fx_node_laws.specs.Tied.{known_endpoint, served_profiles, served_known}

-- the same endpoint and the same network set
pub same_item_at : (R S : Resources) (k : ItemKey) → map.get S.endpoints k ≡ map.get R.endpoints k → map.get S.net_sets k ≡ map.get R.net_sets k → item_at S k ≡ item_at R k
same_item_at R S (item_key.Endpoint ns name) endpoint set = ap (λ o. option_map item.Endpoint o) endpoint
same_item_at R S (item_key.NetSet ns name) endpoint set = ap (λ o. option_map item.NetSet o) set

-- the node is the same, and whether the datastore is in sync
module _ (R S : Resources) (marks : S.in_sync ≡ R.in_sync) (nodes : S.node ≡ R.node) where
  pub same_served : (e : Endpoint) → is_served S e ≡ is_served R e
  same_served e = λ j. marks j && bytes_eq e.node (nodes j)

  pub same_profiles : (o : Option Endpoint) → served_profiles S o ≡ served_profiles R o
  same_profiles None = refl
  same_profiles (Some e) = ap (λ b. cond b (Some e.profiles) None) (same_served e)

  pub same_known : (dg : Digest) (o : Option Endpoint) → served_known dg S o ≡ served_known dg R o
  same_known dg None = refl
  same_known dg (Some e) = ap (λ b. cond b (Some (known_endpoint dg e)) None) (same_served e)
