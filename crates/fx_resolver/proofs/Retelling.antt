-- What the node holds while pairs change, and the items of these are still to be told.
use Rattle.std.proofs.Common.{◌≡◌, Bool, true, false, cond, not, Option, Some, None, is_some, refl, sym, ap, ◌∙◌}
use Rattle.std.specs.FinMap as map
use Rattle.fx_base.specs.Set as set
use Rattle.fx_model.specs.Pairs.{PolicyPairs}
use Rattle.fx_model.specs.declared.ids.ItemKey.{ItemKey}
use Rattle.fx_model.proofs.Orders.{item_total}
use Rattle.fx_resolver.specs.declared.lists.ItemLists.{ItemLists}
use Rattle.fx_resolver.specs.declared.placed.PlacedPolicy.{PlacedPolicy}
use Rattle.fx_resolver.specs.declared.rows.Rows.{Rows}
use Rattle.fx_resolver.specs.Indexes.{Items, same_item}
use Rattle.fx_resolver.specs.Kept.{IsKept, IsKeptBut}
use Rattle.fx_resolver.specs.Known.{KnownPolicies, KnownEndpoints}
use Rattle.fx_resolver.specs.Lists.{AreLists, item_lists, list_of, moved, row_of, row_in}
use Rattle.fx_resolver.specs.Placed.{TierStands}
use Rattle.fx_resolver.specs.Rows.{rows_by}
use Rattle.fx_resolver.proofs.RowLemmas.{told_but}

-- without a policy nothing moves
pub unmoved : (added here : Bool) (o : Option PlacedPolicy) → o ≡ None → (l : ItemLists) → l ≡ cond here (moved (cond (not added) o None) (cond added o None) l) l
unmoved added here o none l = by_cases added here ∙ ap (λ p. cond here (moved (cond (not added) p None) (cond added p None) l) l) (sym none)
  where
    by_cases : (a h : Bool) → l ≡ cond h (moved (cond (not a) None None) (cond a None None) l) l
    by_cases true true = refl
    by_cases true false = refl
    by_cases false true = refl
    by_cases false false = refl

not_inserted : (touched : Items) (item i : ItemKey) → set.contains (set.insert touched item) i ≡ false → (same_item i item ≡ false) × (set.contains touched i ≡ false)
not_inserted touched item i isnt =
    elim (same_item i item) as (λ b. same_item i item ≡ b → is_some (cond b (Some tt) (map.get touched i)) ≡ false → (same_item i item ≡ false) × (set.contains touched i ≡ false)) [
      | true ↦ λ h g. cc
      | false ↦ λ h g. (h, g)
    ] refl (sym (ap is_some (map.get-insert item_total touched item tt i)) ∙ isnt)

module _ {orders : TierStands} {policies : KnownPolicies} {pairs : PolicyPairs} {endpoints : KnownEndpoints} {was : Rows} where
  -- all were told
  pub retelling_begun : (but : ItemKey → Bool) → IsKept orders policies pairs endpoints was → IsKeptBut but orders policies pairs endpoints was
  retelling_begun but kept = record {
    lists_are = kept.lists_are;
    told_is = told_but endpoints kept.apart (row_in was.lists) (row_in was.lists) but was.told kept.told_is (λ i e isnt. refl);
    apart = kept.apart;
  }

  -- the lists of one more item changed
  pub one_more_touched : (touched touched' : Items) (item : ItemKey) (pairs' : PolicyPairs) (now : Rows) → IsKeptBut (set.contains touched) orders policies pairs endpoints was
      → touched' ≡ set.insert touched item → AreLists orders policies pairs' now.lists → now.told ≡ was.told → ((i : ItemKey) → same_item i item ≡ false → item_lists now.lists i ≡ item_lists was.lists i)
      → IsKeptBut (set.contains touched') orders policies pairs' endpoints now
  one_more_touched touched touched' item pairs' now kept grown are told same = record {
    lists_are = are;
    told_is = record {
      there = λ i e there isnt.
          let other = not_inserted touched item i (sym (ap (λ s. set.contains s i) grown) ∙ isnt) in
          ap (λ t. map.get t e.iface) told ∙ kept.told_is.there i e there other.1 ∙ ap (λ l. Some (row_of l i e)) (sym (same i other.0));
      others = λ q none. ap (λ t. map.get t q) told ∙ kept.told_is.others q none;
    };
    apart = kept.apart;
  }

  -- those that were left are told
  pub retelling_ended : (but : ItemKey → Bool) (now : Rows) → IsKeptBut but orders policies pairs endpoints was → now.lists ≡ was.lists → now.told ≡ rows_by (row_in was.lists) endpoints → IsKept orders policies pairs endpoints now
  retelling_ended but now kept same told = record {
    lists_are = λ d i q. ap (λ lists. map.get (list_of d (item_lists lists i)) q) same ∙ kept.lists_are d i q;
    told_is = told ∙ ap (λ l. rows_by (row_in l) endpoints) (sym same);
    apart = kept.apart;
  }
