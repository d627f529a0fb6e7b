-- What a step adds to the tests between two inputs.
use Rattle.std.proofs.Common.{◌≡◌, ℕ, ◌+◌, Bool, true, false, cond, nat_eq, ◌&&◌, List, [], ◌∷◌, Option, Some, None, is_some, refl, sym, ap, ◌∙◌, subst, arith}
use Rattle.std.specs.declared.cmp.Ordering.TheVariants.{Less, Equal, Greater}
use Rattle.std.specs.Ordering.{nat_cmp, is_eq, eq_by_cmp}
use Rattle.std.specs.List.{AllByRecursion, count_by, sum_by}
use Rattle.std.specs.Cmp.Lexicographic.{slice_cmp, pointwise, nat_list_cmp_total}
use Rattle.std.specs.FinMap.{entries, get, insert, remove, get-insert, get-remove, contains_key}
use Rattle.std.proofs.lemmas.List.Sums.{sum_by-cons}
use Rattle.std.specs.Cmp.Lexicographic.{nat_list_eq_equiv}
use Rattle.fx_base.specs.Extended.{put_or_removed}
use Rattle.fx_base.proofs.Found.{each, entries_found}
use Rattle.fx_base.proofs.KeyCases.{bytes_exact}
use Rattle.fx_base.proofs.SumOver.{sum_over, sum_at, sum-insert, sum-remove}
use Rattle.fx_selector.specs.Tree.{Tree}
use Rattle.fx_selector.specs.Truth.{LabelMap}
use Rattle.fx_model.proofs.Orders.{item_total, exact_item}
use Rattle.fx_model.specs.declared.ids.ItemKey.{ItemKey}
use Rattle.fx_model.specs.contracts.ids.ItemKeyOrd.TheImpl.{cmp-value}
use Rattle.fx_base.specs.Ticks.{IsTicked}
use Rattle.fx_base.proofs.TickLemmas.{IsTicked-sum, IsTicked-none}
use Rattle.fx_label_index.specs.Canonicals.{Selectors}
use Rattle.fx_label_index.specs.Counts.{uses_in, raised, lowered_in, lowered}
use Rattle.fx_label_index.specs.Matched.{Parents, labels_of, holds_on}
use Rattle.fx_label_index.specs.declared.counted.Counted.{Counted}
use Rattle.fx_label_index.specs.declared.held.Held.{Held}
use Rattle.fx_label_index.specs.declared.held.Inputs.{Inputs}
use Rattle.fx_label_index.specs.Tested.{labels_in, same_labels, Changing, Standing, at_labels, at_item, on_items, at_new, between, either, comes, met_on, most_between, least_between, at_put, IsTested}

pub as_over : {A : Type 0} (w : A → ℕ) (xs : List A) → sum_by w xs ≡ sum_over w xs
as_over w [] = refl
as_over w (x ∷ xs) = sum_by-cons w x xs ∙ ap (λ n. w x + n) (as_over w xs)

all_zero : {A : Type 0} (w : A → ℕ) (xs : List A) → AllByRecursion (λ x. w x ≡ 0) xs → sum_over w xs ≡ 0
all_zero w [] h = refl
all_zero w (x ∷ xs) h = λ i. h.0 i + all_zero w xs h.1 i

no_more : (n : ℕ) → n + 0 ≡ n
no_more n = omega arith

zero_more : (n : ℕ) → 0 + n ≡ n
zero_more n = omega arith

none_some : {X A : Type 0} (x : X) → None ≡ Some x → A
none_some x e = cc

-- ---- labels are as they are
same_itself : (xs : List ℕ) → pointwise nat_eq xs xs ≡ true
same_itself xs = nat_list_eq_equiv.refl xs

entries_itself : (es : List (List ℕ × List ℕ)) → pointwise (λ (p q : List ℕ × List ℕ). pointwise nat_eq p.0 q.0 && pointwise nat_eq p.1 q.1) es es ≡ true
entries_itself [] = refl
entries_itself (e ∷ es) = λ i. (same_itself e.0 i && same_itself e.1 i) && entries_itself es i

pub labels_itself : (p : Option LabelMap) → same_labels p p ≡ true
labels_itself None = refl
labels_itself (Some m) = entries_itself (entries m)

module _ (f : Changing) (g : Standing) (a : Inputs) where
  -- an item that has the labels that it had
  unchanged : (parents : Parents) (e : ItemKey × Held) → labels_in a e.0 ≡ labels_of parents (Some e.1) → at_item f a parents e ≡ 0
  unchanged parents e same =
      ap (λ p. at_labels f a.selectors p (labels_of parents (Some e.1))) same
      ∙ ap (λ b. cond b 0 (count_by (λ c. f c.1.selector (labels_of parents (Some e.1)) (labels_of parents (Some e.1))) (entries a.selectors))) (labels_itself (labels_of parents (Some e.1)))

  -- all selectors are old
  pub none_new : (b : Inputs) → ((s : List ℕ) (c : Counted) → get b.selectors s ≡ Some c → contains_key a.selectors s ≡ true) → sum_by (at_new g a.selectors b) (entries b.selectors) ≡ 0
  none_new b old =
      as_over _ (entries b.selectors)
      ∙ all_zero (at_new g a.selectors b) (entries b.selectors)
      (each (λ c. get b.selectors c.0 ≡ Some c.1) (λ c. at_new g a.selectors b c ≡ 0) (λ c h. ap (λ x. cond x 0 (on_items g b c.1.selector)) (old c.0 c.1 h)) (entries b.selectors) (entries_found nat_list_cmp_total b.selectors))

  there : (s : List ℕ) (c : Counted) → get a.selectors s ≡ Some c → contains_key a.selectors s ≡ true
  there s c h = ap is_some h

  left_there : (i : ItemKey) (e : ItemKey × Held) → get (remove a.items i) e.0 ≡ Some e.1 → get a.items e.0 ≡ Some e.1
  left_there i e h =
      elim (eq_by_cmp cmp-value.it e.0 i) as (λ b. cond b None (get a.items e.0) ≡ Some e.1 → get a.items e.0 ≡ Some e.1) [
        | true ↦ λ k. none_some e.1 k
        | false ↦ λ k. k
      ] (sym (get-remove item_total a.items i e.0) ∙ h)

  others_zero : (i : ItemKey) → sum_over (at_item f a (get a.parents)) (entries (remove a.items i)) ≡ 0
  others_zero i =
      all_zero (at_item f a (get a.parents)) (entries (remove a.items i))
      (each (λ e. get (remove a.items i) e.0 ≡ Some e.1) (λ e. at_item f a (get a.parents) e ≡ 0)
      (λ e h. unchanged (get a.parents) e (ap (labels_of (get a.parents)) (left_there i e h)))
      (entries (remove a.items i)) (entries_found item_total (remove a.items i)))

  -- ---- one item
  pub item_put : (i : ItemKey) (h : Held) → between f g a (record a { items = insert a.items i h }) ≡ at_item f a (get a.parents) (i, h)
  item_put i h =
      let b : Inputs = record a { items = insert a.items i h } in
      (λ j. (as_over (at_item f a (get a.parents)) (entries (insert a.items i h)) ∙ sum-insert item_total exact_item (at_item f a (get a.parents)) a.items i h) j + none_new b there j)
      ∙ no_more _ ∙ ap (λ n. at_item f a (get a.parents) (i, h) + n) (others_zero i) ∙ no_more _

  pub item_removed : (i : ItemKey) → between f g a (record a { items = remove a.items i }) ≡ 0
  item_removed i =
      let b : Inputs = record a { items = remove a.items i } in
      λ j. (as_over (at_item f a (get a.parents)) (entries (remove a.items i)) ∙ others_zero i) j + none_new b there j

  -- no item has other labels
  none_moved : (b : Inputs) → ((i : ItemKey) (h : Held) → get b.items i ≡ Some h → labels_in a i ≡ labels_of (get b.parents) (Some h)) → sum_by (at_item f a (get b.parents)) (entries b.items) ≡ 0
  none_moved b same =
      as_over _ (entries b.items)
      ∙ all_zero (at_item f a (get b.parents)) (entries b.items)
      (each (λ e. get b.items e.0 ≡ Some e.1) (λ e. at_item f a (get b.parents) e ≡ 0) (λ e h. unchanged (get b.parents) e (same e.0 e.1 h)) (entries b.items) (entries_found item_total b.items))

  pub none_between : (b : Inputs) → ((i : ItemKey) (h : Held) → get b.items i ≡ Some h → labels_in a i ≡ labels_of (get b.parents) (Some h)) → ((s : List ℕ) (c : Counted) → get b.selectors s ≡ Some c → contains_key a.selectors s ≡ true) → between f g a b ≡ 0
  none_between b same old = λ j. none_moved b same j + none_new b old j

  -- ---- one selector
  module _ (b : Inputs) (t : List ℕ) where
    abbrev weight : List ℕ × Counted → ℕ
    weight = at_new g a.selectors b

    abbrev of_items : ℕ
    of_items = sum_by (at_item f a (get b.parents)) (entries b.items)

    over : (s : Selectors) → sum_by weight (entries s) ≡ sum_over weight (entries s)
    over s = as_over weight (entries s)

    -- a text stands for one tree
    abbrev OneTree : Tree → Type 0
    OneTree tree = (counted : Counted) → get b.selectors t ≡ Some counted → counted.selector ≡ tree

    -- what a selector adds that is put
    abbrev more : Tree → ℕ
    more tree = cond (contains_key b.selectors t) 0 (at_new g a.selectors b (t, record { selector = tree; uses = 0 }))

    put_weight : (tree : Tree) (n : ℕ) (o : Option Counted) → ((counted : Counted) → o ≡ Some counted → counted.selector ≡ tree) → weight (t, record { selector = tree; uses = n }) ≡ sum_at weight t o + cond (is_some o) 0 (at_new g a.selectors b (t, record { selector = tree; uses = 0 }))
    put_weight tree n None one = sym (zero_more _)
    put_weight tree n (Some counted) one = ap (λ u. cond (contains_key a.selectors t) 0 (on_items g b u)) (sym (one counted refl)) ∙ sym (no_more _)

    gather : (x w s m r : ℕ) → w ≡ s + m → x + (w + r) ≡ (x + (s + r)) + m
    gather x w s m r h = omega (arith, h)

    pub selector_raised : (tree : Tree) → OneTree tree → between f g a (record b { selectors = raised b.selectors t tree }) ≡ between f g a b + more tree
    selector_raised tree one =
        let rest = sum_over weight (entries (remove b.selectors t)) in
        let counted : Counted = record { selector = tree; uses = uses_in (get b.selectors t) + 1 } in
        ap (λ n. of_items + n) (over (raised b.selectors t tree) ∙ sum-insert nat_list_cmp_total bytes_exact weight b.selectors t counted)
        ∙ gather of_items (weight (t, counted)) (sum_at weight t (get b.selectors t)) (more tree) rest (put_weight tree (uses_in (get b.selectors t) + 1) (get b.selectors t) one)
        ∙ ap (λ n. (of_items + n) + more tree) (sym (over b.selectors ∙ sum-remove nat_list_cmp_total bytes_exact weight b.selectors t))

    -- one that was counted at first takes nothing with it
    pub selector_lowered : contains_key a.selectors t ≡ true → between f g a (record b { selectors = lowered b.selectors t }) ≡ between f g a b
    selector_lowered old =
        ap (λ n. of_items + n) (over (lowered b.selectors t) ∙ by_cases (lowered_in (get b.selectors t)) ∙ sym (before (get b.selectors t)) ∙ sym (over b.selectors ∙ sum-remove nat_list_cmp_total bytes_exact weight b.selectors t))
      where
        no_weight : (counted : Counted) → weight (t, counted) ≡ 0
        no_weight counted = ap (λ c. cond c 0 (on_items g b counted.selector)) old

        left : ℕ
        left = sum_over weight (entries (remove b.selectors t))

        by_cases : (o : Option Counted) → sum_over weight (entries (put_or_removed b.selectors t o)) ≡ left
        by_cases None = refl
        by_cases (Some counted) = sum-insert nat_list_cmp_total bytes_exact weight b.selectors t counted ∙ ap (λ n. n + left) (no_weight counted) ∙ zero_more left

        before : (o : Option Counted) → sum_at weight t o + left ≡ left
        before None = zero_more left
        before (Some counted) = ap (λ n. n + left) (no_weight counted) ∙ zero_more left

-- ---- steps
later_same : (a b : Bool) (n : ℕ) → (a ≡ true → b ≡ true) → cond b 0 (cond a 0 n) ≡ cond b 0 n
later_same true b n h = ap (λ c. cond c 0 0) (h refl) ∙ sym (ap (λ c. cond c 0 n) (h refl))
later_same false b n h = refl

module _ (a b : Inputs) (t : List ℕ) (tree : Tree) (m k n : ℕ) (before : IsTested a b m k) where
  raised_sum : (f : Changing) (g : Standing) → (contains_key a.selectors t ≡ true → contains_key b.selectors t ≡ true) → ((counted : Counted) → get b.selectors t ≡ Some counted → counted.selector ≡ tree) → between f g a (record b { selectors = raised b.selectors t tree }) ≡ between f g a b + at_put g b t tree
  raised_sum f g kept one = selector_raised f g a b t tree one ∙ ap (λ x. between f g a b + x) (later_same (contains_key a.selectors t) (contains_key b.selectors t) (on_items g b tree) kept)

  -- a selector that is put once more adds what it tests
  pub then_raised : (contains_key a.selectors t ≡ true → contains_key b.selectors t ≡ true) → ((counted : Counted) → get b.selectors t ≡ Some counted → counted.selector ≡ tree) → IsTicked (at_put holds_on b t tree) (at_put met_on b t tree) k n → IsTested a (record b { selectors = raised b.selectors t tree }) m n
  then_raised kept one put =
      let c : Inputs = record b { selectors = raised b.selectors t tree } in
      subst (λ l. IsTicked l (most_between a c) m n) (sym (raised_sum comes holds_on kept one))
      (subst (λ h. IsTicked (least_between a b + at_put holds_on b t tree) h m n) (sym (raised_sum either met_on kept one))
      (IsTicked-sum (least_between a b) (most_between a b) (at_put holds_on b t tree) (at_put met_on b t tree) m k n before put))

module _ (a b : Inputs) (t : List ℕ) (m k : ℕ) (before : IsTested a b m k) where
  -- one that is removed, with no test, stood at first
  pub then_lowered : contains_key a.selectors t ≡ true → IsTested a (record b { selectors = lowered b.selectors t }) m k
  then_lowered old =
      let c : Inputs = record b { selectors = lowered b.selectors t } in
      subst (λ l. IsTicked l (most_between a c) m k) (sym (selector_lowered comes holds_on a b t old))
      (subst (λ h. IsTicked (least_between a b) h m k) (sym (selector_lowered either met_on a b t old)) before)

-- an item that is put
pub item_tested : (a : Inputs) (i : ItemKey) (h : Held) (m n : ℕ) → IsTicked (at_item comes a (get a.parents) (i, h)) (at_item either a (get a.parents) (i, h)) m n → IsTested a (record a { items = insert a.items i h }) m n
item_tested a i h m n it =
    let b : Inputs = record a { items = insert a.items i h } in
    subst (λ l. IsTicked l (most_between a b) m n) (sym (item_put comes holds_on a i h))
    (subst (λ x. IsTicked (at_item comes a (get a.parents) (i, h)) x m n) (sym (item_put either met_on a i h)) it)

-- ---- no tick
tested_by : (a b : Inputs) (l h m n : ℕ) → least_between a b ≡ l → most_between a b ≡ h → IsTicked l h m n → IsTested a b m n
tested_by a b l h m n least most it = subst (λ x. IsTicked x (most_between a b) m n) (sym least) (subst (λ x. IsTicked l x m n) (sym most) it)

-- where no item has other labels and no selector is new, nothing is tested
pub none_tested : (a b : Inputs) (m : ℕ) → ((i : ItemKey) (h : Held) → get b.items i ≡ Some h → labels_in a i ≡ labels_of (get b.parents) (Some h)) → ((s : List ℕ) (c : Counted) → get b.selectors s ≡ Some c → contains_key a.selectors s ≡ true) → IsTested a b m m
none_tested a b m same old = tested_by a b 0 0 m m (none_between comes holds_on a b same old) (none_between either met_on a b same old) (IsTicked-none m)

pub self_tested : (a : Inputs) (m : ℕ) → IsTested a a m m
self_tested a m = none_tested a a m (λ i h e. ap (labels_of (get a.parents)) e) (λ s c e. ap is_some e)

pub item_gone_tested : (a : Inputs) (i : ItemKey) (m : ℕ) → IsTested a (record a { items = remove a.items i }) m m
item_gone_tested a i m = tested_by a (record a { items = remove a.items i }) 0 0 m m (item_removed comes holds_on a i) (item_removed either met_on a i) (IsTicked-none m)

lowered_was : (o : Option Counted) (c : Counted) → lowered_in o ≡ Some c → is_some o ≡ true
lowered_was None c e = none_some c e
lowered_was (Some x) c e = refl

pub selector_gone_tested : (a : Inputs) (t : List ℕ) (m : ℕ) → IsTested a (record a { selectors = lowered a.selectors t }) m m
selector_gone_tested a t m = none_tested a (record a { selectors = lowered a.selectors t }) m (λ i h e. ap (labels_of (get a.parents)) e) (λ s c e. was s c (sym (at_lowered s (lowered_in (get a.selectors t))) ∙ e))
  where
    at_lowered : (s : List ℕ) (o : Option Counted) → get (put_or_removed a.selectors t o) s ≡ cond (eq_by_cmp (slice_cmp nat_cmp) s t) o (get a.selectors s)
    at_lowered s None = get-remove nat_list_cmp_total a.selectors t s
    at_lowered s (Some c) = get-insert nat_list_cmp_total a.selectors t c s

    was : (s : List ℕ) (c : Counted) → cond (eq_by_cmp (slice_cmp nat_cmp) s t) (lowered_in (get a.selectors t)) (get a.selectors s) ≡ Some c → is_some (get a.selectors s) ≡ true
    was s c =
        elim (slice_cmp nat_cmp s t) as (λ r. slice_cmp nat_cmp s t ≡ r → cond (is_eq r) (lowered_in (get a.selectors t)) (get a.selectors s) ≡ Some c → is_some (get a.selectors s) ≡ true) [
          | Less ↦ λ p e. ap is_some e
          | Greater ↦ λ p e. ap is_some e
          | Equal ↦ λ p e. ap (λ q. is_some (get a.selectors q)) (bytes_exact s t p) ∙ lowered_was (get a.selectors t) c e
        ] refl
