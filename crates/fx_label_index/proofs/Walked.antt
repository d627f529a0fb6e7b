-- The tests of a walk over items, as a sum.
use Rattle.std.proofs.Common.{◌≡◌, ℕ, ◌+◌, Bool, true, false, cond, List, [], ◌∷◌, map, Option, Some, None, is_some, refl, sym, ap, ◌∙◌, subst, arith}
use Rattle.std.specs.List.{AllByRecursion, count_by, sum_by}
use Rattle.std.specs.FinMap.{entries, get}
use Rattle.fx_base.specs.Set as set
use Rattle.fx_base.specs.Passing.{passes}
use Rattle.fx_base.specs.Ticks.{IsTicked}
use Rattle.fx_base.proofs.Found.{each, entries_found}
use Rattle.fx_base.proofs.SumFiltered.{sum-filtered}
use Rattle.fx_base.proofs.SumOver.{sum_over, sum_at}
use Rattle.fx_base.proofs.TickLemmas.{IsTicked-sum, IsTicked-none}
use Rattle.fx_label_rows.specs.Labelled.{ItemSet, LabelsByItem}
use Rattle.fx_model.proofs.Orders.{item_total, exact_item}
use Rattle.fx_model.specs.declared.ids.ItemKey.{ItemKey}
use Rattle.fx_label_index.specs.Indexed.{at_key, lists}
use Rattle.fx_label_index.specs.Matched.{labels_of, holds_on, ParentMap}
use Rattle.fx_label_index.specs.Tested.{Changing, labels_in, at_labels, at_item, comes, either, met_on, most_between, IsTested}
use Rattle.fx_label_index.specs.declared.held.Held.{Held}
use Rattle.fx_label_index.specs.declared.held.Inputs.{Inputs}
use Rattle.fx_label_index.proofs.Sums.{as_over, labels_itself, none_new}

-- ---- the ticks so far, with what is left
pub record IsWalked {K : Type 0} (f g : K → ℕ) (left all : List (K × Unit {0})) (start now : ℕ) : Type 0 where
  pub least : ℕ
  pub most : ℕ
  pub ticks : IsTicked least most start now
  pub least_is : least + sum_over (λ e. f e.0) left ≡ sum_over (λ e. f e.0) all
  pub most_is : most + sum_over (λ e. g e.0) left ≡ sum_over (λ e. g e.0) all

none_less : (n : ℕ) → 0 + n ≡ n
none_less n = omega arith

none_more : (n : ℕ) → n + 0 ≡ n
none_more n = omega arith

moved_on : (l x r s : ℕ) → l + (x + r) ≡ s → (l + x) + r ≡ s
moved_on l x r s h = omega (arith, h)

module _ {K : Type 0} (f g : K → ℕ) (all : List (K × Unit {0})) (start : ℕ) where
  pub walked-start : IsWalked f g all all start start
  walked-start = record { least = 0; most = 0; ticks = IsTicked-none start; least_is = none_less _; most_is = none_less _ }

  pub walked-next : (e : K × Unit {0}) (es : List (K × Unit {0})) (now next : ℕ) → IsWalked f g (e ∷ es) all start now → IsTicked (f e.0) (g e.0) now next → IsWalked f g es all start next
  walked-next e es now next w it = record {
    least = w.least + f e.0;
    most = w.most + g e.0;
    ticks = IsTicked-sum w.least w.most (f e.0) (g e.0) start now next w.ticks it;
    least_is = moved_on w.least (f e.0) (sum_over (λ e. f e.0) es) (sum_over (λ e. f e.0) all) w.least_is;
    most_is = moved_on w.most (g e.0) (sum_over (λ e. g e.0) es) (sum_over (λ e. g e.0) all) w.most_is;
  }

  pub walked-end : (now : ℕ) → IsWalked f g [] all start now → IsTicked (sum_by (λ e. f e.0) all) (sum_by (λ e. g e.0) all) start now
  walked-end now w =
      subst (λ l. IsTicked l (sum_by (λ e. g e.0) all) start now) (sym (none_more w.least) ∙ w.least_is ∙ sym (as_over (λ e. f e.0) all))
      (subst (λ m. IsTicked w.least m start now) (sym (none_more w.most) ∙ w.most_is ∙ sym (as_over (λ e. g e.0) all)) w.ticks)

-- ---- sums that are alike
sum_alike : {A : Type 0} (w v : A → ℕ) (xs : List A) → AllByRecursion (λ x. w x ≡ v x) xs → sum_over w xs ≡ sum_over v xs
sum_alike w v [] h = refl
sum_alike w v (x ∷ xs) h = λ i. h.0 i + sum_alike w v xs h.1 i

over_keys : {K : Type 0} (f : K → ℕ) (es : List (K × Unit {0})) → sum_over f (map (λ e. e.0) es) ≡ sum_over (λ e. f e.0) es
over_keys f [] = refl
over_keys f (e ∷ es) = ap (λ n. f e.0 + n) (over_keys f es)

all_zero : {A : Type 0} (w : A → ℕ) (xs : List A) → AllByRecursion (λ x. w x ≡ 0) xs → sum_over w xs ≡ 0
all_zero w [] h = refl
all_zero w (x ∷ xs) h = λ i. h.0 i + all_zero w xs h.1 i

-- ---- the items that list a parent
module _ (f : Changing) (n : Inputs) (name : List ℕ) (labels : LabelsByItem)
    (others : (i : ItemKey) → lists (get n.items i) name ≡ false → get labels i ≡ labels_in n i) where
  -- an item that doesn't list it calls for no test
  unlisted_zero : (i : ItemKey) → lists (get n.items i) name ≡ false → at_key f n labels i ≡ 0
  unlisted_zero i none =
      ap (λ p. at_labels f n.selectors p (labels_in n i)) (others i none)
      ∙ ap (λ b. cond b 0 (count_by (λ c. f c.1.selector (labels_in n i) (labels_in n i)) (entries n.selectors))) (labels_itself (labels_in n i))

  abbrev is_listed : ItemKey × Held → Bool
  is_listed e = lists (Some e.1) name

  abbrev weight : ItemKey × Held → ℕ
  weight e = cond (is_listed e) (at_key f n labels e.0) 0

  module _ (listed : ItemSet) (are : (i : ItemKey) → set.contains listed i ≡ lists (get n.items i) name) where
    by_held : (i : ItemKey) (o : Option Held) → lists o name ≡ passes is_listed i o
    by_held i None = refl
    by_held i (Some held) = refl

    passed : (b : Bool) (x : ℕ) → (b ≡ false → x ≡ 0) → x ≡ cond b x 0
    passed true x h = refl
    passed false x h = h refl

    entry_weight : (e : ItemKey × Held) → get n.items e.0 ≡ Some e.1 → at_key f n labels e.0 ≡ weight e
    entry_weight e is = passed (is_listed e) (at_key f n labels e.0) (λ none. unlisted_zero e.0 (ap (λ o. lists o name) is ∙ none))

    no_weight : (e : ItemKey × Held) → is_listed e ≡ false → weight e ≡ 0
    no_weight e none = ap (λ b. cond b (at_key f n labels e.0) 0) none

    key_weight : (i : ItemKey) (o : Option Held) → lists o name ≡ true → sum_at weight i o ≡ at_key f n labels i
    key_weight i None h = cc
    key_weight i (Some held) h = ap (λ b. cond b (at_key f n labels i) 0) h

    pub over_listed : sum_by (λ e. at_key f n labels e.0) (entries n.items) ≡ sum_by (λ e. at_key f n labels e.0) (entries listed)
    over_listed =
        as_over (λ e. at_key f n labels e.0) (entries n.items)
        ∙ sum_alike (λ e. at_key f n labels e.0) weight (entries n.items) (each (λ e. get n.items e.0 ≡ Some e.1) (λ e. at_key f n labels e.0 ≡ weight e) entry_weight (entries n.items) (entries_found item_total n.items))
        ∙ sum-filtered is_listed weight n.items item_total exact_item listed (λ i. are i ∙ by_held i (get n.items i)) no_weight
        ∙ over_keys (λ i. sum_at weight i (get n.items i)) (entries listed)
        ∙ sum_alike (λ e. sum_at weight e.0 (get n.items e.0)) (λ e. at_key f n labels e.0) (entries listed)
        (each (λ e. get listed e.0 ≡ Some e.1) (λ e. sum_at weight e.0 (get n.items e.0) ≡ at_key f n labels e.0) (λ e is. key_weight e.0 (get n.items e.0) (sym (are e.0) ∙ ap is_some is)) (entries listed) (entries_found item_total listed))
        ∙ sym (as_over (λ e. at_key f n labels e.0) (entries listed))

  -- where none lists it
  pub none_listed : ((i : ItemKey) → lists (get n.items i) name ≡ false) → sum_by (λ e. at_key f n labels e.0) (entries n.items) ≡ 0
  none_listed none =
      as_over (λ e. at_key f n labels e.0) (entries n.items)
      ∙ all_zero (λ e. at_key f n labels e.0) (entries n.items) (each (λ e. get n.items e.0 ≡ Some e.1) (λ e. at_key f n labels e.0 ≡ 0) (λ e is. unlisted_zero e.0 (none e.0)) (entries n.items) (entries_found item_total n.items))

-- ---- parents that change
module _ (a : Inputs) (parents : ParentMap) (labels : LabelsByItem) (had : (i : ItemKey) → get labels i ≡ labels_in a i) where
  abbrev changed : Inputs
  changed = record a { parents = parents }

  at_parents : (f : Changing) → sum_by (at_item f a (get parents)) (entries a.items) ≡ sum_by (λ e. at_key f changed labels e.0) (entries a.items)
  at_parents f =
      as_over (at_item f a (get parents)) (entries a.items)
      ∙ sum_alike (at_item f a (get parents)) (λ e. at_key f changed labels e.0) (entries a.items)
      (each (λ e. get a.items e.0 ≡ Some e.1) (λ e. at_item f a (get parents) e ≡ at_key f changed labels e.0)
      (λ e is. λ j. at_labels f a.selectors (sym (had e.0) j) (labels_of (get parents) (sym is j))) (entries a.items) (entries_found item_total a.items))
      ∙ sym (as_over (λ e. at_key f changed labels e.0) (entries a.items))

  pub parents_tested : (m n : ℕ) → IsTicked (sum_by (λ e. at_key comes changed labels e.0) (entries a.items)) (sum_by (λ e. at_key either changed labels e.0) (entries a.items)) m n → IsTested a changed m n
  parents_tested m n it =
      subst (λ l. IsTicked l (most_between a changed) m n) (sym ((λ j. at_parents comes j + none_new comes holds_on a changed (λ s c h. ap is_some h) j) ∙ none_more _))
      (subst (λ h. IsTicked (sum_by (λ e. at_key comes changed labels e.0) (entries a.items)) h m n) (sym ((λ j. at_parents either j + none_new either met_on a changed (λ s c h. ap is_some h) j) ∙ none_more _)) it)
