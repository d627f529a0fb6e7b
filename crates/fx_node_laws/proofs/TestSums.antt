-- The tests between two inputs of the index, over the resources before and after an update.
use Rattle.std.proofs.Common.{◌≡◌, ◌≤◌, ℕ, ◌+◌, Bool, true, false, cond, not, ◌&&◌, List, map, Option, Some, None, refl, sym, ap, ◌∙◌, subst, arith}
use Rattle.std.specs.Cmp.Lexicographic.{pointwise}
use Rattle.std.specs.List.{AllByRecursion, count_by, sum_by}
use Rattle.std.specs.FinMap as maps
use Rattle.std.specs.Prelude.{nat_eq}
use Rattle.std.proofs.lemmas.List.Sums.{sum_by-le-sum_by}
use Rattle.fx_base.specs.Same.{same_bytes, same_option, same_finite}
use Rattle.fx_base.proofs.Found.{each}
use Rattle.fx_selector.specs.Needs.{needed, meets}
use Rattle.fx_selector.specs.Tree.{Tree}
use Rattle.fx_selector.specs.Truth.{LabelMap, holds}
use Rattle.fx_model.specs.declared.ids.ItemKey.{ItemKey}
use Rattle.fx_model.specs.declared.resources.Item.{Item}
use Rattle.fx_model.specs.declared.resources.Resources.{Resources}
use Rattle.fx_model.specs.declared.resources.Update.{Update}
use Rattle.fx_model.specs.Labels.{labels_of}
use Rattle.fx_model.specs.Resources.{after, items_of}
use Rattle.fx_model.specs.Tests.{live, is_touched, item_at, labels_at, is_met_by_either, comes_to_hold, on_live, on_touched, on_items, of_new, most_tests, least_tests}
use Rattle.fx_label_index.proofs.Sums.{labels_itself}
use Rattle.fx_label_index.specs.Canonicals.{Selectors}
use Rattle.fx_label_index.specs.declared.counted.Counted.{Counted}
use Rattle.fx_label_index.specs.declared.held.Held.{Held}
use Rattle.fx_label_index.specs.declared.held.Inputs as index
use Rattle.fx_label_index.specs.Matched.{holds_on, labels_of as held_labels}
use Rattle.fx_label_index.specs.Tested.{Changing, Standing, labels_in, same_map, same_labels, met_on, either, comes, at_labels, at_item, at_new, on_items as on_held, most_between, least_between}
use Rattle.fx_node_laws.proofs.Items.{held_at}
use Rattle.fx_node_laws.proofs.LiveSelectors.{selector_of}
use Rattle.fx_node_laws.proofs.Summing.{sum-mapped, sum_within, count_none}
use Rattle.fx_node_laws.proofs.Untouched.{untouched}

-- ---- tests by the index and by the resources

met_alike : (t : Tree) (before : Option LabelMap) (now : LabelMap) → either t before (Some now) ≡ is_met_by_either t before now
met_alike t None now = refl
met_alike t (Some labels) now = refl

holds_alike : (t : Tree) (before : Option LabelMap) (now : LabelMap) → comes t before (Some now) ≡ comes_to_hold t before now
holds_alike t None now = refl
holds_alike t (Some labels) now = refl

-- ---- labels that stay

one_labels : (p q : Option LabelMap) → same_labels p q ≡ true → p ≡ q
one_labels p q same = same_option same_map (λ a b h. same_finite (pointwise nat_eq) (pointwise nat_eq) same_bytes same_bytes a b h) p q same

never_both : (b : Bool) → (b && not b) ≡ false
never_both true = refl
never_both false = refl

-- no selector comes to hold on them
none_comes : (s : Selectors) (p q : Option LabelMap) → same_labels p q ≡ true → count_by (λ c. comes c.1.selector p q) (maps.entries s) ≡ 0
none_comes s p q same =
    count_none (λ (c : List ℕ × Counted). comes c.1.selector p q)
    (λ c. ap (λ (o : Option LabelMap). holds_on c.1.selector q && not (holds_on c.1.selector o)) (one_labels p q same) ∙ never_both (holds_on c.1.selector q)) (maps.entries s)

-- ---- one item

-- at most, where labels of what isn't touched stay
at_most : (touched same : Bool) (x y : ℕ) → x ≡ y → (touched ≡ false → same ≡ true) → cond same 0 x ≤ cond touched y 0
at_most true true x y e off = omega arith
at_most true false x y e off = omega (arith, e)
at_most false true x y e off = omega arith
at_most false false x y e off = let wrong : false ≡ true = off refl in cc

-- at least, where nothing comes to labels that stay
at_least : (touched same : Bool) (x y : ℕ) → x ≡ y → (same ≡ true → x ≡ 0) → cond touched y 0 ≤ cond same 0 x
at_least true true x y e none = let nothing : x ≡ 0 = none refl in omega (arith, e, nothing)
at_least true false x y e none = omega (arith, e)
at_least false true x y e none = omega arith
at_least false false x y e none = omega arith

both_parts : (a b c d : ℕ) → a ≤ c → b ≡ d → a + b ≤ c + d
both_parts a b c d h e = omega (arith, h, e)

-- ---- all of them

-- the index holds the items of the resources now and their labels before and now, and counts the live selectors before and now
module _ (R : Resources) (u : Update) (n now : index.Inputs)
    (labels_before : (k : ItemKey) → labels_in n k ≡ labels_at R k)
    (labels_now : (x : ItemKey × Item) → held_labels (maps.get now.parents) (Some (held_at x.0 x.1)) ≡ Some (labels_of (after R u) x))
    (items_now : maps.entries now.items ≡ map (λ (x : ItemKey × Item). (x.0, held_at x.0 x.1)) (items_of (after R u)))
    (found : AllByRecursion (λ (x : ItemKey × Item). item_at (after R u) x.0 ≡ Some x.1) (items_of (after R u)))
    (live_before : maps.entries (live R) ≡ map selector_of (maps.entries n.selectors))
    (live_now : maps.entries (live (after R u)) ≡ map selector_of (maps.entries now.selectors))
    (known : (t : List ℕ) → maps.contains_key n.selectors t ≡ maps.contains_key (live R) t) where
  abbrev items : List (ItemKey × Item)
  items = items_of (after R u)

  abbrev held : ItemKey × Item → ItemKey × Held
  held x = (x.0, held_at x.0 x.1)

  -- ---- items whose labels change

  -- how many selectors that were counted pass on an item
  abbrev passing : Changing → ItemKey × Item → ℕ
  passing f x = count_by (λ (c : List ℕ × Counted). f c.1.selector (labels_at R x.0) (Some (labels_of (after R u) x))) (maps.entries n.selectors)

  abbrev tested : Changing → ItemKey × Item → ℕ
  tested f x = cond (same_labels (labels_at R x.0) (Some (labels_of (after R u) x))) 0 (passing f x)

  over_items : (f : Changing) → sum_by (at_item f n (maps.get now.parents)) (maps.entries now.items) ≡ sum_by (tested f) items
  over_items f =
      ap (sum_by (at_item f n (maps.get now.parents))) items_now
      ∙ sum-mapped (at_item f n (maps.get now.parents)) held items
      ∙ (λ j. sum_by (λ (x : ItemKey × Item). at_labels f n.selectors (labels_before x.0 j) (labels_now x j)) items)

  passing_live : (f : Changing) (passes : Tree → Option LabelMap → LabelMap → Bool) → ((t : Tree) (before : Option LabelMap) (labels : LabelMap) → f t before (Some labels) ≡ passes t before labels) → (x : ItemKey × Item) → passing f x ≡ on_live passes R u x
  passing_live f passes alike x =
      let test : List ℕ × Tree → Bool = λ s. passes s.1 (labels_at R x.0) (labels_of (after R u) x) in
      (λ j. count_by (λ (c : List ℕ × Counted). alike c.1.selector (labels_at R x.0) (labels_of (after R u) x) j) (maps.entries n.selectors))
      ∙ sym (sum-mapped (λ (s : List ℕ × Tree). cond (test s) 1 0) selector_of (maps.entries n.selectors))
      ∙ ap (count_by test) (sym live_before)

  abbrev most_of : ItemKey × Item → ℕ
  most_of x = cond (is_touched u x) (on_live is_met_by_either R u x) 0

  abbrev least_of : ItemKey × Item → ℕ
  least_of x = cond (is_touched u x) (on_live comes_to_hold R u x) 0

  stays : (x : ItemKey × Item) → item_at (after R u) x.0 ≡ Some x.1 → is_touched u x ≡ false → same_labels (labels_at R x.0) (Some (labels_of (after R u) x)) ≡ true
  stays x at off = ap (λ (o : Option LabelMap). same_labels o (Some (labels_of (after R u) x))) (untouched R u x at off) ∙ labels_itself (Some (labels_of (after R u) x))

  most_items : sum_by (at_item either n (maps.get now.parents)) (maps.entries now.items) ≤ on_touched is_met_by_either R u
  most_items =
      subst (λ k. k ≤ on_touched is_met_by_either R u) (sym (over_items either))
      (sum_within (tested either) most_of items
      (each (λ (x : ItemKey × Item). item_at (after R u) x.0 ≡ Some x.1) (λ x. tested either x ≤ most_of x)
      (λ x at. at_most (is_touched u x) (same_labels (labels_at R x.0) (Some (labels_of (after R u) x))) (passing either x) (on_live is_met_by_either R u x) (passing_live either is_met_by_either met_alike x) (stays x at))
      items found))

  least_items : on_touched comes_to_hold R u ≤ sum_by (at_item comes n (maps.get now.parents)) (maps.entries now.items)
  least_items =
      subst (λ k. on_touched comes_to_hold R u ≤ k) (sym (over_items comes))
      (sum_by-le-sum_by least_of (tested comes) items
      (λ x. at_least (is_touched u x) (same_labels (labels_at R x.0) (Some (labels_of (after R u) x))) (passing comes x) (on_live comes_to_hold R u x) (passing_live comes comes_to_hold holds_alike x)
      (none_comes n.selectors (labels_at R x.0) (Some (labels_of (after R u) x)))))

  -- ---- selectors that are new

  module _ (g : Standing) (passes : Tree → LabelMap → Bool) (alike : (t : Tree) (labels : LabelMap) → g t (Some labels) ≡ passes t labels) where
    on_items_now : (t : Tree) → on_held g now t ≡ on_items passes (after R u) t
    on_items_now t =
        let test : ItemKey × Held → Bool = λ e. g t (held_labels (maps.get now.parents) (Some e.1)) in
        ap (count_by test) items_now
        ∙ sum-mapped (λ (e : ItemKey × Held). cond (test e) 1 0) held items
        ∙ (λ j. count_by (λ (x : ItemKey × Item). g t (labels_now x j)) items)
        ∙ (λ j. count_by (λ (x : ItemKey × Item). alike t (labels_of (after R u) x) j) items)

    new_now : sum_by (at_new g n.selectors now) (maps.entries now.selectors) ≡ of_new passes R u
    new_now =
        let tests : List ℕ × Tree → ℕ = λ s. cond (maps.contains_key (live R) s.0) 0 (on_items passes (after R u) s.1) in
        (λ j. sum_by (λ (c : List ℕ × Counted). cond (known c.0 j) 0 (on_items_now c.1.selector j)) (maps.entries now.selectors))
        ∙ sym (sum-mapped tests selector_of (maps.entries now.selectors))
        ∙ ap (sum_by tests) (sym live_now)

  -- ---- both together

  pub most_are : most_between n now ≤ most_tests R u
  most_are =
      both_parts (sum_by (at_item either n (maps.get now.parents)) (maps.entries now.items)) (sum_by (at_new met_on n.selectors now) (maps.entries now.selectors))
      (on_touched is_met_by_either R u) (of_new (λ t labels. meets (needed t) labels) R u) most_items (new_now met_on (λ t labels. meets (needed t) labels) (λ t labels. refl))

  pub least_are : least_tests R u ≤ least_between n now
  least_are =
      both_parts (on_touched comes_to_hold R u) (of_new holds R u)
      (sum_by (at_item comes n (maps.get now.parents)) (maps.entries now.items)) (sum_by (at_new holds_on n.selectors now) (maps.entries now.selectors))
      least_items (sym (new_now holds_on holds (λ t labels. refl)))
