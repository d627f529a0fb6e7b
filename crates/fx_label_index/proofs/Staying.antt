-- What stays where it stood as an item is put again.
use Rattle.std.proofs.Common.{◌≡◌, ℕ, Bool, true, false, cond, ◌&&◌, List, Option, Some, None, refl, sym, ap, ◌∙◌}
use Rattle.std.specs.Prelude.{option_map}
use Rattle.std.specs.declared.cmp.Ordering.TheVariants.{Less, Equal, Greater}
use Rattle.std.specs.Ordering.{is_eq}
use Rattle.std.specs.FinMap as map
use Rattle.fx_base.proofs.Cases.{same_some}
use Rattle.fx_selector.specs.Truth.{LabelMap, is_among}
use Rattle.fx_label_rows.specs.Labelled.{ItemGroups, LabelGroups, LabelsByItem, AreLabelled, has_both, has_label}
use Rattle.fx_model.proofs.Orders.{item_total, exact_item}
use Rattle.fx_model.specs.declared.ids.ItemKey.{ItemKey}
use Rattle.fx_model.specs.contracts.ids.ItemKeyOrd.TheImpl.{cmp-value}
use Rattle.fx_label_index.specs.Indexed.{AreListed, lists, parents_of}
use Rattle.fx_label_index.specs.Matched.{Items, item_eq}
use Rattle.fx_label_index.specs.declared.held.Held.{Held}

-- ---- parents

lists_by : (o : Option Held) (names : List (List ℕ)) (name : List ℕ) → option_map parents_of o ≡ Some names → lists o name ≡ is_among names name
lists_by None names name e = cc
lists_by (Some held) names name e = ap (λ (parents : List (List ℕ)). is_among parents name) (same_some held.parents names e)

module _ (items : Items) (groups : ItemGroups) (key : ItemKey) (held : Held) (same : option_map parents_of (map.get items key) ≡ Some held.parents) where
  lists_still : (i : ItemKey) (name : List ℕ) → lists (map.get items i) name ≡ lists (cond (item_eq i key) (Some held) (map.get items i)) name
  lists_still i name =
      elim (cmp-value.it i key) as (λ r. cmp-value.it i key ≡ r → lists (map.get items i) name ≡ lists (cond (is_eq r) (Some held) (map.get items i)) name) [
        | Less ↦ λ e. refl
        | Greater ↦ λ e. refl
        | Equal ↦ λ e. ap (λ (k : ItemKey). lists (map.get items k) name) (exact_item i key e) ∙ lists_by (map.get items key) held.parents name same
      ] refl

  -- an item that lists the same parents stays under them
  pub listed_again : AreListed items groups → (now : Items) → now ≡ map.insert items key held → AreListed now groups
  listed_again listed now is name i =
      listed name i ∙ lists_still i name
      ∙ ap (λ (o : Option Held). lists o name) (sym (map.get-insert item_total items key held i))
      ∙ ap (λ (m : Items). lists (map.get m i) name) (sym is)

-- ---- labels

pub entered : (a s n : Bool) → (s ≡ true → n ≡ false) → cond (a && s) true n ≡ cond s a n
entered true true n h = refl
entered true false n h = refl
entered false true n h = h refl
entered false false n h = refl

placed : (s : Bool) (after : LabelMap) (o : Option LabelMap) (k v : List ℕ) (there : Bool) → there ≡ has_label o k v → cond s (has_label (Some after) k v) there ≡ has_label (cond s (Some after) o) k v
placed true after o k v there h = refl
placed false after o k v there h = h

-- an item that stands under its labels, as all others under theirs
pub labelled_again : (labels : LabelsByItem) (rows next : LabelGroups) (key : ItemKey) (after : LabelMap) → AreLabelled labels rows
    → ((k : List ℕ) (p : List ℕ × ItemKey) → has_both (map.get next k) p ≡ cond (item_eq p.1 key) (has_label (Some after) k p.0) (has_both (map.get rows k) p))
    → (now : LabelsByItem) → now ≡ map.insert labels key after → AreLabelled now next
labelled_again labels rows next key after was changed now is k p =
    changed k p ∙ placed (item_eq p.1 key) after (map.get labels p.1) k p.0 (has_both (map.get rows k) p) (was k p)
    ∙ ap (λ (o : Option LabelMap). has_label o k p.0) (sym (map.get-insert item_total labels key after p.1))
    ∙ ap (λ (m : LabelsByItem). has_label (map.get m p.1) k p.0) (sym is)
