-- The keys of the policies that apply to each item, by their places, and how a policy moves among them.
use Rattle.std.specs.Prelude.{◌≡◌, ℕ, Bool, cond, List, map, Option, Some, None, unwrap_or}
use Rattle.std.specs.FinMap as maps
use Rattle.fx_model.specs.Pairs.{PolicyPairs}
use Rattle.fx_model.specs.declared.ids.ItemKey.{ItemKey}
use Rattle.fx_model.specs.declared.tier_order.PolicyPlace.{PolicyPlace}
use Rattle.fx_model.specs.declared.view.ViewEndpoint.{ViewEndpoint}
use Rattle.fx_model.specs.contracts.ids.ItemKeyOrd.TheImpl as item_cmp
use Rattle.fx_model.specs.contracts.tier_order.PolicyPlaceOrd.TheImpl as place_cmp
use Rattle.fx_model.specs.Directions.{Direction, Ingress, Egress}
use Rattle.fx_model.specs.TierOrder.{tier_by_tier, view_tier}
use Rattle.fx_model.specs.Views.{namespace_of, item_name}
use Rattle.fx_resolver.specs.declared.known.KnownEndpoint.{KnownEndpoint}
use Rattle.fx_resolver.specs.declared.lists.ItemLists.{ItemLists}
use Rattle.fx_resolver.specs.declared.placed.PlacedPolicy.{PlacedPolicy}
use Rattle.fx_resolver.specs.Known.{KnownPolicies}
use Rattle.fx_resolver.specs.Placed.{TierStands, is_placed_on, at_place}

-- keys of policies by their places
abbrev pub Keys : Type 0
Keys = maps.FinMap place_cmp.cmp-value.it (List ℕ)

abbrev pub AllLists : Type 0
AllLists = maps.FinMap item_cmp.cmp-value.it ItemLists

abbrev pub no_lists : ItemLists
no_lists = record { ingress = maps.empty; egress = maps.empty }

-- the lists of an item, which are empty where none are held
abbrev pub item_lists : AllLists → ItemKey → ItemLists
item_lists lists i = unwrap_or (maps.get lists i) no_lists

abbrev pub list_of : Direction → ItemLists → Keys
list_of Ingress l = l.ingress
list_of Egress l = l.egress

-- ---- a policy that goes and comes

abbrev pub keys_without : Option PlacedPolicy → Keys → Keys
keys_without None m = m
keys_without (Some p) m = maps.remove m p.place

abbrev pub keys_with : Direction → Option PlacedPolicy → Keys → Keys
keys_with d None m = m
keys_with d (Some p) m = cond (is_placed_on d p) (maps.insert m p.place p.key) m

abbrev pub without : Option PlacedPolicy → ItemLists → ItemLists
without o l = record { ingress = keys_without o l.ingress; egress = keys_without o l.egress }

abbrev pub with_policy : Option PlacedPolicy → ItemLists → ItemLists
with_policy o l = record { ingress = keys_with Ingress o l.ingress; egress = keys_with Egress o l.egress }

-- from where it stood to where it stands
abbrev pub moved : Option PlacedPolicy → Option PlacedPolicy → ItemLists → ItemLists
moved before after l = with_policy after (without before l)

-- ---- all lists

-- each place of each list has what is to stand there
abbrev pub AreLists : TierStands → KnownPolicies → PolicyPairs → AllLists → Type 0
AreLists orders policies pairs lists = (d : Direction) (i : ItemKey) (q : PolicyPlace) → maps.get (list_of d (item_lists lists i)) q ≡ at_place orders policies pairs d i q

-- an endpoint with the tiers of these lists
abbrev pub row_of : ItemLists → ItemKey → KnownEndpoint → ViewEndpoint
row_of l i e = record {
  ns = namespace_of i;
  name = item_name i;
  ingress = map view_tier (tier_by_tier (maps.entries l.ingress));
  egress = map view_tier (tier_by_tier (maps.entries l.egress));
  profiles = e.profiles;
}

abbrev pub row_in : AllLists → ItemKey → KnownEndpoint → ViewEndpoint
row_in lists i e = row_of (item_lists lists i) i e
