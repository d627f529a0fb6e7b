-- Names and branches beside one: those below it and those above it, by their bytes.
use Rattle.std.specs.Prelude.{ℕ, suc, Bool, false, cond, ◌&&◌, List, [], ◌∷◌, ◌++◌, filter, length, nat_eq, nat_lt, Option, Some, None}
use Rattle.std.specs.List.{flat_map}
use Rattle.std.specs.Ordering.{nat_cmp, is_lt}
use Rattle.std.specs.Cmp.Lexicographic.{slice_cmp, pointwise}
use Rattle.std.specs.FinMap as maps
use Rattle.fx_dispatch.specs.declared.way.Way.{Way}
use Rattle.fx_model.specs.Tree.{Branch, common_prefix, has_child}
use Rattle.fx_dispatch.specs.Ways.{branch_ways}

abbrev pub is_below : List ℕ → List ℕ → Bool
is_below x y = is_lt (slice_cmp nat_cmp y x)

abbrev pub is_above : List ℕ → List ℕ → Bool
is_above x y = is_lt (slice_cmp nat_cmp x y)

-- ---- names

-- these names and one more, at its place
abbrev pub with_placed : List ℕ → List (List ℕ) → List (List ℕ)
with_placed x names = filter (is_below x) names ++ x ∷ filter (is_above x) names

-- these names without one
abbrev pub left_out : List ℕ → List (List ℕ) → List (List ℕ)
left_out x names = filter (is_below x) names ++ filter (is_above x) names

-- the place of a name among names in order: behind those below it
abbrev pub place_in : List ℕ → List (List ℕ) → ℕ
place_in x [] = 0
place_in x (y ∷ names) = cond (is_below x y) (suc (place_in x names)) 0

-- the name begins so
abbrev pub begins : List ℕ → List ℕ → Bool
begins name shared = pointwise nat_eq (common_prefix shared name) shared

-- ---- branches

-- names by the byte that follows in them
abbrev pub BranchMap : Type 0
BranchMap = maps.FinMap (slice_cmp nat_cmp) (List (List ℕ))

-- the branches with these names at a byte, and without that byte where there are none
abbrev pub with_branch : List ℕ → List (List ℕ) → BranchMap → BranchMap
with_branch byte [] branches = maps.remove branches byte
with_branch byte (name ∷ names) branches = maps.insert branches byte (name ∷ names)

-- where more branches than this are there, two or more are left once one of them has these names
abbrev pub too_few : List (List ℕ) → ℕ
too_few [] = 2
too_few (name ∷ names) = 1

-- a byte has a chain of more names than this, beside other branches
abbrev pub more_than : ℕ → List ℕ → Option (List (List ℕ)) → ℕ → Bool
more_than few byte None branches = false
more_than few byte (Some names) branches = has_child byte names && (nat_lt few (length names) && nat_lt 1 branches)

abbrev pub has_more : ℕ → List ℕ → BranchMap → Bool
has_more few byte branches = more_than few byte (maps.get branches byte) (maps.len branches)

-- the ways of the branches below a byte, and of those above it
abbrev pub ways_below : List ℕ → List ℕ → List Branch → List Way
ways_below shared byte branches = flat_map (branch_ways shared) (filter (λ b. is_below byte b.0) branches)

abbrev pub ways_above : List ℕ → List ℕ → List Branch → List Way
ways_above shared byte branches = flat_map (branch_ways shared) (filter (λ b. is_above byte b.0) branches)

-- the root's ways where one byte has these names
abbrev pub ways_with : List ℕ → List Branch → List ℕ → List (List ℕ) → List Way
ways_with shared branches byte names = ways_below shared byte branches ++ (branch_ways shared (byte, names) ++ ways_above shared byte branches)
