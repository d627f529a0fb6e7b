-- How many pairs come, against how many tests are made.
use Rattle.std.proofs.Common.{◌≡◌, ◌≤◌, ℕ, ◌+◌, ◌-◌, ◌^◌, min, Bool, true, false, cond, nat_lt, ◌&&◌, ◌||◌, List, Option, Some, None, refl, sym, ap, ◌∙◌, subst, arith}
use Rattle.std.specs.declared.cmp.Ordering.{Ordering}
use Rattle.std.specs.declared.cmp.Ordering.TheVariants.{Less, Equal, Greater}
use Rattle.std.specs.Ordering.{nat_cmp, is_eq, ordering_then}
use Rattle.std.specs.List.{count_by}
use Rattle.std.specs.Cmp.{tied_itself}
use Rattle.std.specs.Cmp.Lexicographic.{slice_cmp, nat_list_cmp_total}
use Rattle.std.specs.FinMap.{FinMap, entries, get, get-insert, get-remove, insert, remove, contains_key, len-empty}
use Rattle.fx_base.specs.Extended.{put_or_removed}
use Rattle.fx_base.specs.Set as set
use Rattle.fx_base.specs.Grouped.{Texts, has_key}
use Rattle.fx_base.specs.Passing.{passes}
use Rattle.fx_base.specs.Ticks.{ticked, IsTicked}
use Rattle.fx_base.proofs.Cases.{surely, first_true}
use Rattle.fx_base.proofs.Counting.{count-implied}
use Rattle.fx_base.proofs.Filtered.{len-filtered}
use Rattle.fx_base.proofs.Gained.{gained-images, gained-sum, len-part}
use Rattle.fx_base.proofs.KeyCases.{bytes_exact}
use Rattle.fx_base.proofs.TickLemmas.{ticked-least, IsTicked-none}
use Rattle.fx_selector.specs.Tree.{Tree}
use Rattle.fx_selector.specs.Truth.{LabelMap, holds}
use Rattle.fx_selector.proofs.Needing.{holding}
use Rattle.fx_label_rows.specs.Labelled.{ItemSet, LabelsByItem}
use Rattle.fx_model.specs.Pairs.{Pairs, pair_cmp}
use Rattle.fx_model.proofs.Orders.{item_total, exact_item, pairs_total, exact_pair}
use Rattle.fx_model.specs.declared.ids.ItemKey.{ItemKey}
use Rattle.fx_model.specs.contracts.ids.ItemKeyOrd.TheImpl.{cmp-value}
use Rattle.fx_label_index.specs.Canonicals.{Selectors}
use Rattle.fx_label_index.specs.Counts.{lowered_in, lowered}
use Rattle.fx_label_index.specs.Indexed.{TextsByItem, AreTold, AreLabelsOf, is_met, met_number}
use Rattle.fx_label_index.specs.Matched.{tests, holds_on, labels_of, item_eq, text_eq}
use Rattle.fx_label_index.specs.Tested.{same_labels, met_on, either, comes, at_labels, on_items, at_put, gained}
use Rattle.fx_label_index.specs.declared.counted.Counted.{Counted}
use Rattle.fx_label_index.specs.declared.held.Held.{Held}
use Rattle.fx_label_index.specs.declared.held.Inputs.{Inputs}
use Rattle.fx_label_index.proofs.Candidates.{item_within}

-- ---- pairs that come
then_equal : (r s : Ordering) → s ≡ Equal → ordering_then r s ≡ r
then_equal Less s h = refl
then_equal Equal s h = h
then_equal Greater s h = refl

equal_then : (r s : Ordering) → r ≡ Equal → ordering_then r s ≡ s
equal_then r s h = ap (λ x. ordering_then x s) h

differ : {A : Type 0} (x : Bool) → x ≡ true → x ≡ false → A
differ x p q = let no : true ≡ false = sym p ∙ q in cc

abbrev of_item : ItemKey → List ℕ → List ℕ × ItemKey
of_item key t = (t, key)

abbrev of_text : List ℕ → ItemKey → List ℕ × ItemKey
of_text text i = (text, i)

-- pairs of one item are as many as its texts at most
pub gained_texts : (key : ItemKey) (after : Texts) (old new : Pairs) → ((t : List ℕ) (i : ItemKey) → set.contains new (t, i) ≡ cond (item_eq i key) (set.contains after t) (set.contains old (t, i))) → gained old new ≤ set.len after
gained_texts key after old new is = gained-images pair_cmp (slice_cmp nat_cmp) (of_item key) (λ x y. then_equal (slice_cmp nat_cmp x y) (cmp-value.it key key) (tied_itself item_total key)) pairs_total exact_pair old new after from
  where
    from : (p : List ℕ × ItemKey) → set.contains new p ≡ true → set.contains old p ≡ false → (t : List ℕ) × ((p ≡ of_item key t) × (set.contains after t ≡ true))
    from p there absent =
        elim (cmp-value.it p.1 key) as (λ r. cmp-value.it p.1 key ≡ r → set.contains new p ≡ cond (is_eq r) (set.contains after p.0) (set.contains old p) → (t : List ℕ) × ((p ≡ of_item key t) × (set.contains after t ≡ true))) [
          | Less ↦ λ e h. differ (set.contains new p) there (h ∙ absent)
          | Greater ↦ λ e h. differ (set.contains new p) there (h ∙ absent)
          | Equal ↦ λ e h. (p.0, (λ j. (p.0, exact_item p.1 key e j), sym h ∙ there))
        ] refl (is p.0 p.1)

-- pairs of one text are as many as its items at most
pub gained_items : (text : List ℕ) (items : ItemSet) (old new : Pairs) → ((t : List ℕ) (i : ItemKey) → set.contains new (t, i) ≡ cond (set.contains items i && text_eq t text) true (set.contains old (t, i))) → gained old new ≤ set.len items
gained_items text items old new is = gained-images pair_cmp cmp-value.it (of_text text) (λ x y. equal_then (slice_cmp nat_cmp text text) (cmp-value.it x y) (tied_itself nat_list_cmp_total text)) pairs_total exact_pair old new items from
  where
    among : (a : Bool) (o : Bool) → o ≡ false → cond (a && true) true o ≡ true → a ≡ true
    among true o h k = refl
    among false o h k = sym h ∙ k

    elsewhere : (a o : Bool) → cond (a && false) true o ≡ o
    elsewhere true o = refl
    elsewhere false o = refl

    from : (p : List ℕ × ItemKey) → set.contains new p ≡ true → set.contains old p ≡ false → (i : ItemKey) × ((p ≡ of_text text i) × (set.contains items i ≡ true))
    from p there absent =
        elim (slice_cmp nat_cmp p.0 text) as (λ r. slice_cmp nat_cmp p.0 text ≡ r → set.contains new p ≡ cond (set.contains items p.1 && is_eq r) true (set.contains old p) → (i : ItemKey) × ((p ≡ of_text text i) × (set.contains items i ≡ true))) [
          | Less ↦ λ e h. differ (set.contains new p) there (h ∙ elsewhere (set.contains items p.1) (set.contains old p) ∙ absent)
          | Greater ↦ λ e h. differ (set.contains new p) there (h ∙ elsewhere (set.contains items p.1) (set.contains old p) ∙ absent)
          | Equal ↦ λ e h. (p.1, (λ j. (bytes_exact p.0 text e j, p.1), among (set.contains items p.1) (set.contains old p) absent (sym h ∙ there)))
        ] refl (is p.0 p.1)

-- where none comes
pub gained_none : (old new : Pairs) → ((p : List ℕ × ItemKey) → set.contains new p ≡ true → set.contains old p ≡ true) → (n : ℕ) → min (n + gained old new) (2 ^ 64 - 1) ≤ n
gained_none old new stood n =
    no_more (gained old new) n _ (gained-images pair_cmp pair_cmp (λ p. p) (λ x y. refl) pairs_total exact_pair old new set.empty (λ p there absent. differ (set.contains old p) (stood p there) absent)) len_none
  where
    len_none : set.len {R = pair_cmp} set.empty ≡ 0
    len_none = len-empty pair_cmp (Unit {0})

    no_more : (g n l : ℕ) → g ≤ l → l ≡ 0 → min (n + g) (2 ^ 64 - 1) ≤ n
    no_more g n l h k = omega (arith, h, k)

pub gained_still : (pairs : Pairs) (n : ℕ) → min (n + gained pairs pairs) (2 ^ 64 - 1) ≤ n
gained_still pairs n = gained_none pairs pairs (λ p h. h) n

chained : (x y z p q s k : ℕ) → s ≤ p + q → min (x + p) k ≤ y → min (y + q) k ≤ z → min (x + s) k ≤ z
chained x y z p q s k h a b = omega (arith, h, a, b)

-- one step, and then another
pub gained_then : (a b c : Pairs) (x y z : ℕ) → min (x + gained a b) (2 ^ 64 - 1) ≤ y → min (y + gained b c) (2 ^ 64 - 1) ≤ z → min (x + gained a c) (2 ^ 64 - 1) ≤ z
gained_then a b c x y z h k = chained x y z (gained a b) (gained b c) (gained a c) (2 ^ 64 - 1) (gained-sum pairs_total exact_pair a b c) h k

through : (a b c : ℕ) → a ≤ b → b ≤ c → a ≤ c
through a b c h k = omega (arith, h, k)

-- at least so many came as ticks
pub gained_ticked : (g l c count next : ℕ) → g ≤ l → l ≤ c → next ≡ ticked c count → min (count + g) (2 ^ 64 - 1) ≤ next
gained_ticked g l c count next h k is = subst (λ n. min (count + g) (2 ^ 64 - 1) ≤ n) (sym is) (ticked-least g c count (through g l c h k))

-- ---- one item is tested
module _ (selectors : Selectors) (labels : LabelMap) where
  abbrev held : List ℕ × Counted → Bool
  held e = holds e.1.selector labels

  is_held : (t : List ℕ) (o : Option Counted) → tests o (Some labels) ≡ passes held t o
  is_held t None = refl
  is_held t (Some counted) = refl

  -- the texts that hold are among those that are met
  pub held_few : (after : Texts) → ((t : List ℕ) → set.contains after t ≡ tests (get selectors t) (Some labels)) → set.len after ≤ met_number selectors labels
  held_few after answers =
      subst (λ n. n ≤ met_number selectors labels) (sym (len-filtered nat_list_cmp_total bytes_exact held after selectors (λ t. answers t ∙ is_held t (get selectors t))))
      (count-implied held (is_met labels) (entries selectors) (λ e h. holding e.1.selector labels h))

  -- at least each selector that comes to hold, and exactly each that is met
  pub relabel_tested : (before : Option LabelMap) (count next : ℕ) → same_labels before (Some labels) ≡ false → next ≡ ticked (met_number selectors labels) count → IsTicked (at_labels comes selectors before (Some labels)) (at_labels either selectors before (Some labels)) count next
  relabel_tested before count next differ h =
      let least : at_labels comes selectors before (Some labels) ≡ count_by (λ c. comes c.1.selector before (Some labels)) (entries selectors) = ap (λ b. cond b 0 (count_by (λ c. comes c.1.selector before (Some labels)) (entries selectors))) differ in
      let most : at_labels either selectors before (Some labels) ≡ count_by (λ c. either c.1.selector before (Some labels)) (entries selectors) = ap (λ b. cond b 0 (count_by (λ c. either c.1.selector before (Some labels)) (entries selectors))) differ in
      record {
        count = met_number selectors labels;
        number = h;
        enough = subst (λ l. l ≤ met_number selectors labels) (sym least) (count-implied (λ c. comes c.1.selector before (Some labels)) (is_met labels) (entries selectors) (λ c k. holding c.1.selector labels (first_true _ _ k)));
        few = subst (λ m. met_number selectors labels ≤ m) (sym most) (count-implied (is_met labels) (λ c. either c.1.selector before (Some labels)) (entries selectors) (λ c k. ap (λ b. met_on c.1.selector before || b) k ∙ surely (met_on c.1.selector before)));
      }

  -- labels that stay call for no test
  pub same_tested : (before : Option LabelMap) (count : ℕ) → same_labels before (Some labels) ≡ true → IsTicked (at_labels comes selectors before (Some labels)) (at_labels either selectors before (Some labels)) count count
  same_tested before count same =
      subst (λ l. IsTicked l (at_labels either selectors before (Some labels)) count count) (sym (ap (λ b. cond b 0 (count_by (λ c. comes c.1.selector before (Some labels)) (entries selectors))) same))
      (subst (λ m. IsTicked 0 m count count) (sym (ap (λ b. cond b 0 (count_by (λ c. either c.1.selector before (Some labels)) (entries selectors))) same)) (IsTicked-none count))

-- what is told of an item, by what is kept
pub told_texts : (key : ItemKey) (after : Texts) (rows now : TextsByItem) (old new : Pairs) → AreTold old rows → AreTold new now → now ≡ insert rows key after → (t : List ℕ) (i : ItemKey) → set.contains new (t, i) ≡ cond (item_eq i key) (set.contains after t) (set.contains old (t, i))
told_texts key after rows now old new were are put t i =
    are t i ∙ ap (λ r. has_key (get r i) t) put ∙ ap (λ o. has_key o t) (get-insert item_total rows key after i)
    ∙ elim (item_eq i key) as (λ b. has_key (cond b (Some after) (get rows i)) t ≡ cond b (set.contains after t) (has_key (get rows i) t)) [ true ↦ refl | false ↦ refl ]
    ∙ ap (cond (item_eq i key) (set.contains after t)) (sym (were t i))

-- ---- one selector is tested
module _ (tree : Tree) (n : Inputs) (labels : LabelsByItem) (have : AreLabelsOf labels n) where
  abbrev met_item : ItemKey × Held → Bool
  met_item e = met_on tree (labels_of (get n.parents) (Some e.1))

  by_held : (i : ItemKey) (o : Option Held) → met_on tree (labels_of (get n.parents) o) ≡ passes met_item i o
  by_held i None = refl
  by_held i (Some held) = refl

  -- as many as there are items whose labels meet the need
  pub candidates_number : (candidates : ItemSet) → ((i : ItemKey) → set.contains candidates i ≡ met_on tree (get labels i)) → set.len candidates ≡ on_items met_on n tree
  candidates_number candidates are =
      len-filtered item_total exact_item met_item candidates n.items (λ i. are i ∙ ap (met_on tree) (have i) ∙ by_held i (get n.items i))

-- at least each item on which it holds, and exactly each that is met
pub come_tested : (tree : Tree) (n : Inputs) (count next : ℕ) → next ≡ ticked (on_items met_on n tree) count → IsTicked (on_items holds_on n tree) (on_items met_on n tree) count next
come_tested tree n count next h = record {
  count = on_items met_on n tree;
  number = h;
  enough = count-implied (λ (e : ItemKey × Held). holds_on tree (labels_of (get n.parents) (Some e.1))) (λ e. met_on tree (labels_of (get n.parents) (Some e.1))) (entries n.items) (λ e k. item_within tree (labels_of (get n.parents) (Some e.1)) k);
  few = omega arith;
}

-- the items on which it holds are among the candidates
pub items_few : (tree : Tree) (labels : LabelsByItem) (candidates items : ItemSet) → ((i : ItemKey) → set.contains candidates i ≡ met_on tree (get labels i)) → ((i : ItemKey) → set.contains items i ≡ holds_on tree (get labels i)) → set.len items ≤ set.len candidates
items_few tree labels candidates items are answers = len-part item_total exact_item items candidates (λ i h. are i ∙ item_within tree (get labels i) (sym (answers i) ∙ h))

-- what is told of a text, by what is kept
pub told_items : (text : List ℕ) (items : ItemSet) (b : Bool) (rows now : TextsByItem) (old new : Pairs) → AreTold old rows → AreTold new now → ((i : ItemKey) (t : List ℕ) → has_key (get now i) t ≡ cond (set.contains items i && text_eq t text) b (has_key (get rows i) t)) → (t : List ℕ) (i : ItemKey) → set.contains new (t, i) ≡ cond (set.contains items i && text_eq t text) b (set.contains old (t, i))
told_items text items b rows now old new were are step t i = are t i ∙ step i t ∙ ap (cond (set.contains items i && text_eq t text) b) (sym (were t i))

fewer : (n g l m k : ℕ) → g ≤ l → min (n + l) k ≤ m → min (n + g) k ≤ m
fewer n g l m k h i = omega (arith, h, i)

pub gained_fewer : (n g l m : ℕ) → g ≤ l → min (n + l) (2 ^ 64 - 1) ≤ m → min (n + g) (2 ^ 64 - 1) ≤ m
gained_fewer n g l m h i = fewer n g l m (2 ^ 64 - 1) h i

pub no_fewer : (n : ℕ) → n ≤ n
no_fewer n = omega arith

-- ---- a put of a selector
pub put_new : (n : Inputs) (t : List ℕ) (tree : Tree) (m k : ℕ) → contains_key n.selectors t ≡ false → IsTicked (on_items holds_on n tree) (on_items met_on n tree) m k → IsTicked (at_put holds_on n t tree) (at_put met_on n t tree) m k
put_new n t tree m k new it =
    subst (λ l. IsTicked l (at_put met_on n t tree) m k) (sym (ap (λ b. cond b 0 (on_items holds_on n tree)) new))
    (subst (λ h. IsTicked (on_items holds_on n tree) h m k) (sym (ap (λ b. cond b 0 (on_items met_on n tree)) new)) it)

pub put_old : (n : Inputs) (t : List ℕ) (tree : Tree) (m : ℕ) → contains_key n.selectors t ≡ true → IsTicked (at_put holds_on n t tree) (at_put met_on n t tree) m m
put_old n t tree m old =
    subst (λ l. IsTicked l (at_put met_on n t tree) m m) (sym (ap (λ b. cond b 0 (on_items holds_on n tree)) old))
    (subst (λ h. IsTicked 0 h m m) (sym (ap (λ b. cond b 0 (on_items met_on n tree)) old)) (IsTicked-none m))

-- ---- what goes brings no pair
pub gone_item : (p : List ℕ → Option LabelMap) (items now : FinMap cmp-value.it Held) (selectors : Selectors) (key : ItemKey) → now ≡ remove items key → (t : List ℕ) (i : ItemKey) → tests (get selectors t) (labels_of p (get now i)) ≡ true → tests (get selectors t) (labels_of p (get items i)) ≡ true
gone_item p items now selectors key is t i h =
    left (get selectors t) (item_eq i key) (get items i) (ap (λ o. tests (get selectors t) (labels_of p o)) (sym (get-remove item_total items key i)) ∙ ap (λ m. tests (get selectors t) (labels_of p (get m i))) (sym is) ∙ h)
  where
    left : (c : Option Counted) (b : Bool) (o : Option Held) → tests c (labels_of p (cond b None o)) ≡ true → tests c (labels_of p o) ≡ true
    left None b o h = h
    left (Some c) true o h = cc
    left (Some c) false o h = h

pub gone_selector : (selectors now : Selectors) (text : List ℕ) (labels : Option LabelMap) → now ≡ lowered selectors text → (t : List ℕ) → tests (get now t) labels ≡ true → tests (get selectors t) labels ≡ true
gone_selector selectors now text labels is t h =
    elim (slice_cmp nat_cmp t text) as (λ r. slice_cmp nat_cmp t text ≡ r → tests (cond (is_eq r) (lowered_in (get selectors text)) (get selectors t)) labels ≡ true → tests (get selectors t) labels ≡ true) [
      | Less ↦ λ e k. k
      | Greater ↦ λ e k. k
      | Equal ↦ λ e k. ap (λ q. tests (get selectors q) labels) (bytes_exact t text e) ∙ was (get selectors text) k
    ] refl (ap (λ o. tests o labels) (sym (at_lowered (lowered_in (get selectors text)))) ∙ ap (λ m. tests (get m t) labels) (sym is) ∙ h)
  where
    at_lowered : (o : Option Counted) → get (put_or_removed selectors text o) t ≡ cond (text_eq t text) o (get selectors t)
    at_lowered None = get-remove nat_list_cmp_total selectors text t
    at_lowered (Some c) = get-insert nat_list_cmp_total selectors text c t

    was : (o : Option Counted) → tests (lowered_in o) labels ≡ true → tests o labels ≡ true
    was None k = k
    was (Some c) k = elim (nat_lt 1 c.uses) as (λ b. tests (cond b (Some (record c { uses = c.uses - 1 })) None) labels ≡ true → holds_on c.selector labels ≡ true) [ true ↦ λ e. e | false ↦ λ e. cc ] k
