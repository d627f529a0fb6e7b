-- What the node holds after its inputs have changed.
use Rattle.std.proofs.Common.{◌≡◌, ℕ, Bool, true, false, cond, not, List, Option, Some, None, Bor, refl, sym, ap, ◌∙◌, subst}
use Rattle.std.specs.Bool.{then_some}
use Rattle.std.specs.Option.{option_copied}
use Rattle.std.specs.FinMap as map
use Rattle.fx_base.specs.Extended.{put_or_removed}
use Rattle.fx_base.specs.Set as set
use Rattle.fx_model.specs.Pairs.{PolicyPairs}
use Rattle.fx_model.specs.Messages.{Named}
use Rattle.fx_model.specs.declared.ids.ItemKey.{ItemKey}
use Rattle.fx_model.specs.declared.ids.PolicyId.{PolicyId}
use Rattle.fx_model.specs.declared.tier_order.TierStand.{TierStand}
use Rattle.fx_model.specs.declared.tier_order.PolicyPlace.{PolicyPlace}
use Rattle.fx_model.specs.declared.view.ViewEndpoint.{ViewEndpoint}
use Rattle.fx_model.specs.Directions.{Direction}
use Rattle.fx_resolver.specs.declared.known.KnownEndpoint.{KnownEndpoint}
use Rattle.fx_resolver.specs.declared.known.KnownPolicy.{KnownPolicy}
use Rattle.fx_resolver.specs.declared.lists.ItemLists.{ItemLists}
use Rattle.fx_resolver.specs.declared.placed.PlacedPolicy.{PlacedPolicy}
use Rattle.fx_resolver.specs.declared.rows.Rows.{Rows}
use Rattle.fx_resolver.specs.Indexes.{Ids, Items, is_in_tier, same_item}
use Rattle.fx_resolver.specs.Kept.{IsKept}
use Rattle.fx_resolver.specs.Known.{KnownPolicies, KnownEndpoints}
use Rattle.fx_resolver.specs.Lists.{AllLists, AreLists, item_lists, list_of, moved, row_of, row_in}
use Rattle.fx_resolver.specs.Placed.{TierStands, at_place, placed, with_stand}
use Rattle.fx_resolver.specs.Resolved.{HaveOwnInterfaces}
use Rattle.fx_resolver.specs.Rows.{IsToldBut, rows_by, with_row, without_row, if_other}
use Rattle.fx_resolver.proofs.OrderLemmas.{same_orders, none_in, tier_moved, tier_idle}
use Rattle.fx_resolver.proofs.Placing.{policy_moved, policy_idle}
use Rattle.fx_resolver.proofs.RowLemmas.{told_but}
use Rattle.fx_resolver.proofs.EndpointLemmas.{apart_without, row_gone, row_put}

-- what is lent on a condition
pub lent_if : {A : Type 0} (b : Bool) (x : Bor A) → option_copied (then_some b x) ≡ cond b (Some x.now) None
lent_if true x = refl
lent_if false x = refl

unless : (b c : Bool) → (c ≡ true → b ≡ true) → b ≡ false → c ≡ false
unless b true h isnt = sym (h refl) ∙ isnt
unless b false h isnt = refl

-- lists that are as they are to be, and rows made from them
module _ {orders : TierStands} {policies : KnownPolicies} {pairs : PolicyPairs} {endpoints : KnownEndpoints} {was : Rows} (kept : IsKept orders policies pairs endpoints was) where
  pub kept_anew : (orders' : TierStands) (policies' : KnownPolicies) (pairs' : PolicyPairs) (lists : AllLists) (now : Rows) → AreLists orders' policies' pairs' lists → now.lists ≡ lists → now.told ≡ rows_by (row_in lists) endpoints
      → IsKept orders' policies' pairs' endpoints now
  kept_anew orders' policies' pairs' lists now are same told = record {
    lists_are = subst (AreLists orders' policies' pairs') (sym same) are;
    told_is = told ∙ ap (λ l. rows_by (row_in l) endpoints) (sym same);
    apart = kept.apart;
  }

  -- rows were told, but for the items whose lists have changed
  pub untold : (but : ItemKey → Bool) (lists : AllLists) → ((i : ItemKey) → but i ≡ false → item_lists was.lists i ≡ item_lists lists i) → IsToldBut (row_in lists) endpoints but was.told
  untold but lists same = told_but endpoints kept.apart (row_in was.lists) (row_in lists) but was.told kept.told_is (λ i e isnt. ap (λ l. row_of l i e) (same i isnt))

  -- ---- a tier at another order
  module _ (name : List ℕ) (after : TierStand) where
    pub order_same : orders name ≡ after → IsKept (with_stand orders name after) policies pairs endpoints was
    order_same h = subst (λ (o : TierStands). IsKept o policies pairs endpoints was) (same_orders orders name after h) kept

    pub order_none : ((id : PolicyId) → is_in_tier name (map.get policies id) ≡ false) → IsKept (with_stand orders name after) policies pairs endpoints was
    order_none none = record { lists_are = none_in orders policies pairs name after was.lists none kept.lists_are; told_is = kept.told_is; apart = kept.apart }

    module _ (ids : Ids) (own : (id : PolicyId) → set.contains ids id ≡ is_in_tier name (map.get policies id)) (lists : AllLists)
        (moves : (d : Direction) (i : ItemKey) (q : PolicyPlace) → map.get (list_of d (item_lists lists i)) q ≡ cond (set.contains ids q.id) (at_place (λ _. after) policies pairs d i q) (map.get (list_of d (item_lists was.lists i)) q)) where
      pub order_untold : (items : Items) → ((id : PolicyId) (i : ItemKey) → set.contains ids id ≡ true → set.contains pairs (id, i) ≡ true → set.contains items i ≡ true) → IsToldBut (row_in lists) endpoints (set.contains items) was.told
      order_untold items covers = untold (set.contains items) lists (λ i isnt.
          tier_idle orders policies pairs name ids own was.lists kept.lists_are after lists moves i (λ id is. unless (set.contains items i) (set.contains pairs (id, i)) (covers id i is) isnt))

      pub order_kept : (now : Rows) → now.lists ≡ lists → now.told ≡ rows_by (row_in lists) endpoints → IsKept (with_stand orders name after) policies pairs endpoints now
      order_kept now same told = kept_anew (with_stand orders name after) policies pairs lists now (tier_moved orders policies pairs name ids own was.lists kept.lists_are after lists moves) same told

  -- ---- a policy that changes
  module _ (id : PolicyId) (o : Option KnownPolicy) (lists : AllLists) (keys : ItemKey → Bool) (own : (i : ItemKey) → keys i ≡ set.contains pairs (id, i))
      (moves : (i : ItemKey) → item_lists lists i ≡ cond (keys i) (moved (placed orders id (map.get policies id)) (placed orders id o) (item_lists was.lists i)) (item_lists was.lists i)) where
    pub policy_untold : IsToldBut (row_in lists) endpoints keys was.told
    policy_untold = untold keys lists (λ i isnt. sym (policy_idle orders policies pairs id o was.lists lists kept.lists_are keys own moves i isnt))

    pub policy_kept : (now : Rows) → now.lists ≡ lists → now.told ≡ rows_by (row_in lists) endpoints → IsKept orders (put_or_removed policies id o) pairs endpoints now
    policy_kept now same told = kept_anew orders (put_or_removed policies id o) pairs lists now (policy_moved orders policies pairs id o was.lists lists kept.lists_are keys own moves) same told

  -- ---- an endpoint that changes
  pub endpoint_gone : (item : ItemKey) (now : Rows) → now.lists ≡ was.lists → now.told ≡ without_row (map.get endpoints item) was.told → IsKept orders policies pairs (map.remove endpoints item) now
  endpoint_gone item now same told = record {
    lists_are = subst (AreLists orders policies pairs) (sym same) kept.lists_are;
    told_is = told ∙ row_gone (row_in was.lists) endpoints kept.apart item was.told kept.told_is ∙ ap (λ l. rows_by (row_in l) (map.remove endpoints item)) (sym same);
    apart = apart_without endpoints item kept.apart;
  }

  pub endpoint_put : (item : ItemKey) (e : KnownEndpoint) → HaveOwnInterfaces (map.insert endpoints item e) → (now : Rows) → now.lists ≡ was.lists
      → now.told ≡ map.insert (without_row (if_other e.iface (map.get endpoints item)) was.told) e.iface (row_in was.lists item e) → IsKept orders policies pairs (map.insert endpoints item e) now
  endpoint_put item e apart now same told = record {
    lists_are = subst (AreLists orders policies pairs) (sym same) kept.lists_are;
    told_is = told ∙ row_put (row_in was.lists) endpoints kept.apart item e apart was.told kept.told_is ∙ ap (λ l. rows_by (row_in l) (map.insert endpoints item e)) (sym same);
    apart = apart;
  }
