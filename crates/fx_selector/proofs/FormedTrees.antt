-- The test tells exactly the trees that texts spell.
use Rattle.std.proofs.Common.{◌≡◌, ℕ, ◌≤◌, Bool, true, ◌&&◌, List, [], ◌∷◌, refl, ap, ◌∙◌, arith}
use Rattle.std.specs.Ordering.{nat_cmp, is_lt}
use Rattle.std.specs.declared.cmp.Ordering.{Ordering}
use Rattle.std.specs.declared.cmp.Ordering.TheVariants.{Less, Equal, Greater}
use Rattle.std.specs.Cmp.Lexicographic.{slice_cmp}
use Rattle.std.specs.List.{list_all, AllByRecursion}
use Rattle.std.specs.List.Sorted.{IsStrictlySortedBy}
use Rattle.fx_base.specs.Same.{both_pass}
use Rattle.fx_selector.specs.Phrase.{Each, is_key, is_text}
use Rattle.fx_selector.specs.Tree.{Tree, Trees, IsTree, AreTrees, IsKey, IsString, AreStrings, IsSet, all, global, has, equal, unequal, within, outside, contains, starts, ends, negated, each, some, none, more, quote_of, count}
use Rattle.fx_selector.specs.Formed.{is_key_text, is_string, is_ascending, is_set, are_several, is_tree, are_trees}

both_hold : (s t : Bool) → s ≡ true → t ≡ true → (s && t) ≡ true
both_hold s t p q = ap (λ b. b && t) p ∙ q

-- ---- bytes

each_tested : (test : ℕ → Bool) (cs : List ℕ) → Each test cs → list_all test cs ≡ true
each_tested test [] h = refl
each_tested test (c ∷ cs) h = both_hold (test c) (list_all test cs) h.0 (each_tested test cs h.1)

tested_each : (test : ℕ → Bool) (cs : List ℕ) → list_all test cs ≡ true → Each test cs
tested_each test [] h = tt
tested_each test (c ∷ cs) h = let p = both_pass (test c) (list_all test cs) h in (p.0, tested_each test cs p.1)

key_tested : (k : List ℕ) → IsKey k → is_key_text k ≡ true
key_tested [] h = absurd (omega (arith, h.1))
key_tested (c ∷ cs) h = each_tested is_key (c ∷ cs) h.0

pub tested_key : (k : List ℕ) → is_key_text k ≡ true → IsKey k
tested_key [] h = cc
tested_key (c ∷ cs) h = (tested_each is_key (c ∷ cs) h, omega (arith, h))

pub strings_tested : (vs : List (List ℕ)) → AreStrings vs → list_all is_string vs ≡ true
strings_tested [] h = refl
strings_tested (v ∷ vs) h = both_hold (is_string v) (list_all is_string vs) (each_tested (is_text (quote_of v)) v h.0) (strings_tested vs h.1)

pub tested_strings : (vs : List (List ℕ)) → list_all is_string vs ≡ true → AreStrings vs
tested_strings [] h = tt
tested_strings (v ∷ vs) h = let p = both_pass (is_string v) (list_all is_string vs) h in (tested_each (is_text (quote_of v)) v p.0, tested_strings vs p.1)

-- ---- sets

is_below : (o : Ordering) → is_lt o ≡ true → o ≡ Less
is_below Less h = refl
is_below Equal h = cc
is_below Greater h = cc

below_tested : (v : List ℕ) (ws : List (List ℕ)) → AllByRecursion (λ w. slice_cmp nat_cmp v w ≡ Less) ws → list_all (λ w. is_lt (slice_cmp nat_cmp v w)) ws ≡ true
below_tested v [] h = refl
below_tested v (w ∷ ws) h = both_hold _ _ (ap is_lt h.0) (below_tested v ws h.1)

tested_below : (v : List ℕ) (ws : List (List ℕ)) → list_all (λ w. is_lt (slice_cmp nat_cmp v w)) ws ≡ true → AllByRecursion (λ w. slice_cmp nat_cmp v w ≡ Less) ws
tested_below v [] h = tt
tested_below v (w ∷ ws) h = let p = both_pass _ _ h in (is_below _ p.0, tested_below v ws p.1)

ascending_tested : (vs : List (List ℕ)) → IsStrictlySortedBy (slice_cmp nat_cmp) vs → is_ascending vs ≡ true
unfolding IsStrictlySortedBy
ascending_tested [] h = refl
ascending_tested (v ∷ vs) h = both_hold _ _ (below_tested v vs h.0) (ascending_tested vs h.1)

tested_ascending : (vs : List (List ℕ)) → is_ascending vs ≡ true → IsStrictlySortedBy (slice_cmp nat_cmp) vs
unfolding IsStrictlySortedBy
tested_ascending [] h = tt
tested_ascending (v ∷ vs) h = let p = both_pass _ _ h in (tested_below v vs p.0, tested_ascending vs p.1)

set_tested : (vs : List (List ℕ)) → IsSet vs → is_set vs ≡ true
set_tested vs h = both_hold _ _ (strings_tested vs h.0) (ascending_tested vs h.1)

tested_set : (vs : List (List ℕ)) → is_set vs ≡ true → IsSet vs
tested_set vs h = let p = both_pass (list_all is_string vs) (is_ascending vs) h in (tested_strings vs p.0, tested_ascending vs p.1)

-- ---- trees

labelled_tested : (k v : List ℕ) → IsKey k × IsString v → (is_key_text k && is_string v) ≡ true
labelled_tested k v h = both_hold _ _ (key_tested k h.0) (each_tested (is_text (quote_of v)) v h.1)

tested_labelled : (k v : List ℕ) → (is_key_text k && is_string v) ≡ true → IsKey k × IsString v
tested_labelled k v h = let p = both_pass (is_key_text k) (is_string v) h in (tested_key k p.0, tested_each (is_text (quote_of v)) v p.1)

in_set_tested : (k : List ℕ) (vs : List (List ℕ)) → IsKey k × IsSet vs → (is_key_text k && is_set vs) ≡ true
in_set_tested k vs h = both_hold _ _ (key_tested k h.0) (set_tested vs h.1)

tested_in_set : (k : List ℕ) (vs : List (List ℕ)) → (is_key_text k && is_set vs) ≡ true → IsKey k × IsSet vs
tested_in_set k vs h = let p = both_pass (is_key_text k) (is_set vs) h in (tested_key k p.0, tested_set vs p.1)

several_tested : (ts : Trees) → 2 ≤ count ts → are_several ts ≡ true
several_tested none h = absurd (omega (arith, h))
several_tested (more t none) h = absurd (omega (arith, h))
several_tested (more t (more u us)) h = refl

tested_several : (ts : Trees) → are_several ts ≡ true → 2 ≤ count ts
tested_several none h = cc
tested_several (more t none) h = cc
tested_several (more t (more u us)) h = omega (arith, h)

mutual
  pub tree_tested : (t : Tree) → IsTree t → is_tree t ≡ true
  tree_tested all h = refl
  tree_tested global h = refl
  tree_tested (has k) h = key_tested k h
  tree_tested (equal k v) h = labelled_tested k v h
  tree_tested (unequal k v) h = labelled_tested k v h
  tree_tested (within k vs) h = in_set_tested k vs h
  tree_tested (outside k vs) h = in_set_tested k vs h
  tree_tested (contains k v) h = labelled_tested k v h
  tree_tested (starts k v) h = labelled_tested k v h
  tree_tested (ends k v) h = labelled_tested k v h
  tree_tested (negated t) h = tree_tested t h
  tree_tested (each ts) h = both_hold _ _ (trees_tested ts h.0) (several_tested ts h.1)
  tree_tested (some ts) h = both_hold _ _ (trees_tested ts h.0) (several_tested ts h.1)

  trees_tested : (ts : Trees) → AreTrees ts → are_trees ts ≡ true
  trees_tested none h = refl
  trees_tested (more t ts) h = both_hold _ _ (tree_tested t h.0) (trees_tested ts h.1)

mutual
  pub tested_tree : (t : Tree) → is_tree t ≡ true → IsTree t
  tested_tree all h = tt
  tested_tree global h = tt
  tested_tree (has k) h = tested_key k h
  tested_tree (equal k v) h = tested_labelled k v h
  tested_tree (unequal k v) h = tested_labelled k v h
  tested_tree (within k vs) h = tested_in_set k vs h
  tested_tree (outside k vs) h = tested_in_set k vs h
  tested_tree (contains k v) h = tested_labelled k v h
  tested_tree (starts k v) h = tested_labelled k v h
  tested_tree (ends k v) h = tested_labelled k v h
  tested_tree (negated t) h = tested_tree t h
  tested_tree (each ts) h = let p = both_pass (are_trees ts) (are_several ts) h in (tested_trees ts p.0, tested_several ts p.1)
  tested_tree (some ts) h = let p = both_pass (are_trees ts) (are_several ts) h in (tested_trees ts p.0, tested_several ts p.1)

  tested_trees : (ts : Trees) → are_trees ts ≡ true → AreTrees ts
  tested_trees none h = tt
  tested_trees (more t ts) h = let p = both_pass (is_tree t) (are_trees ts) h in (tested_tree t p.0, tested_trees ts p.1)
