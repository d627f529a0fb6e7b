-- Where a selector holds: the Calico resource reference, "Selectors".
use Rattle.std.specs.Prelude.{ℕ, Bool, true, false, not, ◌&&◌, ◌||◌, List, [], ◌∷◌, is_some, nat_eq}
use Rattle.std.specs.Ordering.{nat_cmp}
use Rattle.std.specs.Cmp.Lexicographic.{slice_cmp, pointwise}
use Rattle.std.specs.List.{list_any, starts_with, ends_with}
use Rattle.std.specs.Option.{option_map_or}
use Rattle.std.specs.FinMap as map
use Rattle.fx_selector.specs.Tree.{Tree, Trees, all, global, has, equal, unequal, within, outside, contains, starts, ends, negated, each, some, none, more}

abbrev pub LabelMap : Type 0
LabelMap = map.FinMap (slice_cmp nat_cmp) (List ℕ)

-- a part stands in a text in one piece
abbrev pub has_part : List ℕ → List ℕ → Bool
has_part part [] = starts_with nat_eq [] part
has_part part (c ∷ cs) = starts_with nat_eq (c ∷ cs) part || has_part part cs

-- one of the values
abbrev pub is_among : List (List ℕ) → List ℕ → Bool
is_among vs x = list_any (λ v. pointwise nat_eq v x) vs

abbrev mutual
  pub holds : Tree → LabelMap → Bool
  holds all m = true
  holds global m = true
  holds (has k) m = is_some (map.get m k)
  -- false where the label is absent
  holds (equal k v) m = option_map_or (λ x. pointwise nat_eq x v) (map.get m k) false
  holds (within k vs) m = option_map_or (is_among vs) (map.get m k) false
  holds (contains k v) m = option_map_or (has_part v) (map.get m k) false
  holds (starts k v) m = option_map_or (λ x. starts_with nat_eq x v) (map.get m k) false
  holds (ends k v) m = option_map_or (λ x. ends_with nat_eq x v) (map.get m k) false
  -- true where the label is absent
  holds (unequal k v) m = option_map_or (λ x. not (pointwise nat_eq x v)) (map.get m k) true
  holds (outside k vs) m = option_map_or (λ x. not (is_among vs x)) (map.get m k) true
  holds (negated t) m = not (holds t m)
  holds (each ts) m = hold_all ts m
  holds (some ts) m = hold_some ts m

  pub hold_all : Trees → LabelMap → Bool
  hold_all none m = true
  hold_all (more t ts) m = holds t m && hold_all ts m

  pub hold_some : Trees → LabelMap → Bool
  hold_some none m = false
  hold_some (more t ts) m = holds t m || hold_some ts m
