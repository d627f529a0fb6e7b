-- The lists of items, as a policy moves in one of them and in many.
use Rattle.std.proofs.Common.{◌≡◌, Bool, true, false, cond, List, [], ◌∷◌, Option, Some, None, is_some, unwrap_or, refl, sym, ap, ◌∙◌}
use Rattle.std.specs.Ordering.{is_eq}
use Rattle.std.specs.Cmp.{tied_itself}
use Rattle.std.specs.FinMap as map
use Rattle.fx_base.specs.Set as set
use Rattle.fx_base.proofs.Walk.{IsRest, IsHalf, IsRest-start, IsRest-next, IsRest-head, IsHalf-head, IsHalf-next}
use Rattle.fx_model.specs.declared.ids.ItemKey.{ItemKey}
use Rattle.fx_model.specs.contracts.ids.ItemKeyOrd.TheImpl as item_cmp
use Rattle.fx_model.proofs.Orders.{item_total, exact_item}
use Rattle.fx_resolver.specs.declared.lists.ItemLists.{ItemLists}
use Rattle.fx_resolver.specs.declared.placed.PlacedPolicy.{PlacedPolicy}
use Rattle.fx_resolver.specs.Indexes.{Items, same_item}
use Rattle.fx_resolver.specs.Lists.{AllLists, no_lists, item_lists, moved}
use Rattle.fx_base.proofs.Cases.{hidden}
use Rattle.fx_base.proofs.Keyed.{no_entries, at_key, by_key}

pub are_empty : (l : ItemLists) → map.entries l.ingress ≡ [] → map.entries l.egress ≡ [] → l ≡ no_lists
are_empty l h g = λ j. record { ingress = no_entries l.ingress h j; egress = no_entries l.egress g j }

one_of : (b : Bool) (o x : Option ItemLists) → unwrap_or (cond b o x) no_lists ≡ cond b (unwrap_or o no_lists) (unwrap_or x no_lists)
one_of true o x = refl
one_of false o x = refl

module _ (lists : AllLists) (item i : ItemKey) where
  pub lists_put : (own : ItemLists) → item_lists (map.insert lists item own) i ≡ cond (same_item i item) own (item_lists lists i)
  lists_put own = ap (λ o. unwrap_or o no_lists) (map.get-insert item_total lists item own i) ∙ one_of (same_item i item) (Some own) (map.get lists i)

  pub lists_absent : map.get lists item ≡ None → item_lists lists i ≡ cond (same_item i item) no_lists (item_lists lists i)
  lists_absent none = sym (at_key exact_item (item_lists lists) item i no_lists (ap (λ o. unwrap_or o no_lists) none))

  lists_removed : item_lists (map.remove lists item) i ≡ cond (same_item i item) no_lists (item_lists lists i)
  lists_removed = ap (λ o. unwrap_or o no_lists) (map.get-remove item_total lists item i) ∙ one_of (same_item i item) None (map.get lists i)

  -- taken out, moved and put back
  pub lists_moved : (before after : Option PlacedPolicy) (now : AllLists) → item_lists now i ≡ cond (same_item i item) (moved before after (item_lists lists item)) (item_lists (map.remove lists item) i)
      → item_lists now i ≡ cond (same_item i item) (moved before after (item_lists lists i)) (item_lists lists i)
  lists_moved before after now is =
      is ∙ ap (cond (same_item i item) (moved before after (item_lists lists item))) lists_removed
      ∙ hidden (same_item i item) (moved before after (item_lists lists item)) no_lists (item_lists lists i)
      ∙ by_key exact_item (λ k. moved before after (item_lists lists k)) item i (item_lists lists i)

-- ---- a walk of the items of a policy
abbrev lists_at : AllLists → ItemKey → Unit {0} → ItemLists
lists_at lists i u = item_lists lists i

abbrev moved_at : Option PlacedPolicy → Option PlacedPolicy → Items → AllLists → ItemKey → Unit {0} → ItemLists
moved_at before after items lists i u = cond (set.contains items i) (moved before after (item_lists lists i)) (item_lists lists i)

-- in the lists of the items that are left the policy stands as before, in the others as after
pub record IsHalfMoved (before after : Option PlacedPolicy) (items : Items) (lists now : AllLists) (es : List (ItemKey × Unit {0})) : Type 0 where
  pub rest : IsRest items es
  pub half : IsHalf item_cmp.cmp-value.it (lists_at lists) (moved_at before after items lists) (lists_at now) es

as_it_was : {A : Type 0} (b : Bool) (x y : A) → x ≡ cond b x (cond b y x)
as_it_was true x y = refl
as_it_was false x y = refl

module _ (before after : Option PlacedPolicy) (items : Items) (lists : AllLists) where
  pub moved_start : IsHalfMoved before after items lists lists (map.entries items)
  moved_start = record {
    rest = IsRest-start item_total items;
    half = record {
      at = λ i u.
          as_it_was (set.contains items i) (item_lists lists i) (moved before after (item_lists lists i))
          ∙ ap (λ o. cond (is_some o) (item_lists lists i) (moved_at before after items lists i u)) (map.get-entries items i);
    };
  }

  pub moved_next : (now then : AllLists) (e : ItemKey × Unit {0}) (es : List (ItemKey × Unit {0})) → IsHalfMoved before after items lists now (e ∷ es)
      → ((i : ItemKey) → item_lists then i ≡ cond (same_item i e.0) (moved before after (item_lists now i)) (item_lists now i))
      → IsHalfMoved before after items lists then es
  moved_next now then e es h is = record {
    rest = IsRest-next item_total exact_item items e es h.rest;
    half = IsHalf-next item_total exact_item (lists_at lists) (moved_at before after items lists) items (lists_at now) (lists_at then) e es h.rest h.half
        (λ u. is e.0
        ∙ (λ j. cond (is_eq (tied_itself item_total e.0 j)) (moved before after (item_lists now e.0)) (item_lists now e.0))
        ∙ ap (moved before after) (IsHalf-head item_total exact_item (lists_at lists) (moved_at before after items lists) (lists_at now) e es h.half u)
        ∙ ap (λ o. cond (is_some o) (moved before after (item_lists lists e.0)) (item_lists lists e.0)) (sym (IsRest-head item_total items e es h.rest)))
        (λ i u other. is i ∙ ap (λ b. cond b (moved before after (item_lists now i)) (item_lists now i)) other);
  }

  pub moved_end : (now : AllLists) → IsHalfMoved before after items lists now [] → (i : ItemKey) → item_lists now i ≡ cond (set.contains items i) (moved before after (item_lists lists i)) (item_lists lists i)
  moved_end now h i = h.half.at i tt
