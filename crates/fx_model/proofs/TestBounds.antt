-- The tests that an update calls for at least are never more than those at most: labels on which a selector holds have what it needs.
use Rattle.std.proofs.Common.{◌≡◌, ℕ, ◌≤◌, Bool, true, false, cond, not, ◌&&◌, ◌||◌, List, Option, refl, arith}
use Rattle.std.specs.List.{count_by}
use Rattle.std.specs.FinMap as maps
use Rattle.std.proofs.lemmas.List.Sums.{sum_by-le-sum_by}
use Rattle.fx_selector.specs.Tree.{Tree}
use Rattle.fx_selector.specs.Needs.{needed, meets}
use Rattle.fx_selector.specs.Truth.{LabelMap, holds}
use Rattle.fx_selector.proofs.Needing.{holding}
use Rattle.fx_model.specs.declared.ids.ItemKey.{ItemKey}
use Rattle.fx_model.specs.declared.resources.Item.{Item}
use Rattle.fx_model.specs.declared.resources.Resources.{Resources}
use Rattle.fx_model.specs.declared.resources.Update.{Update}
use Rattle.fx_model.specs.Labels.{labels_of}
use Rattle.fx_model.specs.Resources.{after, items_of}
use Rattle.fx_model.specs.Tests.{live, is_touched, labels_at, is_met_by, holds_by, is_met_by_either, comes_to_hold, on_live, on_touched, on_items, of_new, most_tests, least_tests}

one_below : (b c : Bool) → (b ≡ true → c ≡ true) → cond b 1 0 ≤ cond c 1 0
one_below true true h = omega arith
one_below false true h = omega arith
one_below false false h = omega arith
one_below true false h = let no : false ≡ true = h refl in cc

counts_below : {X : Type 0} (p q : X → Bool) (xs : List X) → ((x : X) → p x ≡ true → q x ≡ true) → count_by p xs ≤ count_by q xs
counts_below p q xs h = sum_by-le-sum_by (λ x. cond (p x) 1 0) (λ x. cond (q x) 1 0) xs (λ x. one_below (p x) (q x) (h x))

cond_below : (b : Bool) (x y : ℕ) → x ≤ y → cond b x 0 ≤ cond b y 0
cond_below true x y h = h
cond_below false x y h = omega arith

other_below : (b : Bool) (x y : ℕ) → x ≤ y → cond b 0 x ≤ cond b 0 y
other_below true x y h = omega arith
other_below false x y h = h

either_met : (b c d o : Bool) → (b ≡ true → c ≡ true) → (b && not d) ≡ true → (o || c) ≡ true
either_met b c d true h e = refl
either_met true c d false h e = h refl
either_met false c d false h e = cc

comes_met : (t : Tree) (before : Option LabelMap) (now : LabelMap) → comes_to_hold t before now ≡ true → is_met_by_either t before now ≡ true
comes_met t before now = either_met (holds t now) (meets (needed t) now) (holds_by t before) (is_met_by t before) (holding t now)

pub least_below_most : (R : Resources) (u : Update) → least_tests R u ≤ most_tests R u
least_below_most R u = omega (arith, touched, new)
  where
    on_one : (e : ItemKey × Item) → on_live comes_to_hold R u e ≤ on_live is_met_by_either R u e
    on_one e = counts_below _ _ (maps.entries (live R)) (λ s. comes_met s.1 (labels_at R e.0) (labels_of (after R u) e))

    touched : on_touched comes_to_hold R u ≤ on_touched is_met_by_either R u
    touched = sum_by-le-sum_by _ _ (items_of (after R u)) (λ e. cond_below (is_touched u e) _ _ (on_one e))

    of_one : (t : Tree) → on_items holds (after R u) t ≤ on_items (λ t m. meets (needed t) m) (after R u) t
    of_one t = counts_below _ _ (items_of (after R u)) (λ e. holding t (labels_of (after R u) e))

    new : of_new holds R u ≤ of_new (λ t m. meets (needed t) m) R u
    new = sum_by-le-sum_by _ _ (maps.entries (live (after R u))) (λ s. other_below (maps.contains_key (live R) s.0) _ _ (of_one s.1))
