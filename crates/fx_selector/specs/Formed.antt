-- The trees that texts spell, told by a test: keys and strings by their bytes, sets distinct and ascending, and at least two operands.
-- From Calico's resource reference (`projectcalico.org/v3`), "Selectors".
use Rattle.std.specs.Prelude.{ℕ, Bool, true, false, ◌&&◌, List, [], ◌∷◌}
use Rattle.std.specs.Ordering.{nat_cmp, is_lt}
use Rattle.std.specs.Cmp.Lexicographic.{slice_cmp}
use Rattle.std.specs.List.{list_all}
use Rattle.fx_selector.specs.Phrase.{is_key, is_text}
use Rattle.fx_selector.specs.Tree.{Tree, Trees, all, global, has, equal, unequal, within, outside, contains, starts, ends, negated, each, some, none, more, quote_of}

-- a key isn't empty
abbrev pub is_key_text : List ℕ → Bool
is_key_text [] = false
is_key_text (c ∷ cs) = list_all is_key (c ∷ cs)

abbrev pub is_string : List ℕ → Bool
is_string v = list_all (is_text (quote_of v)) v

abbrev pub is_ascending : List (List ℕ) → Bool
is_ascending [] = true
is_ascending (v ∷ vs) = list_all (λ w. is_lt (slice_cmp nat_cmp v w)) vs && is_ascending vs

abbrev pub is_set : List (List ℕ) → Bool
is_set vs = list_all is_string vs && is_ascending vs

abbrev pub are_several : Trees → Bool
are_several none = false
are_several (more t none) = false
are_several (more t (more u us)) = true

abbrev mutual
  pub is_tree : Tree → Bool
  is_tree all = true
  is_tree global = true
  is_tree (has k) = is_key_text k
  is_tree (equal k v) = is_key_text k && is_string v
  is_tree (unequal k v) = is_key_text k && is_string v
  is_tree (within k vs) = is_key_text k && is_set vs
  is_tree (outside k vs) = is_key_text k && is_set vs
  is_tree (contains k v) = is_key_text k && is_string v
  is_tree (starts k v) = is_key_text k && is_string v
  is_tree (ends k v) = is_key_text k && is_string v
  is_tree (negated t) = is_tree t
  is_tree (each ts) = are_trees ts && are_several ts
  is_tree (some ts) = are_trees ts && are_several ts

  pub are_trees : Trees → Bool
  are_trees none = true
  are_trees (more t ts) = is_tree t && are_trees ts
