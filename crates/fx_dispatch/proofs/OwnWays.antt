-- Dispatch rules as ways, and ways as dispatch rules.
use Rattle.std.proofs.Common.{◌≡◌, ℕ, Bool, true, false, List, [], ◌∷◌, ◌++◌, map, refl, ap, ◌∙◌}
use Rattle.std.specs.Prelude.{if◌then◌else◌}
use Rattle.std.specs.List.{flat_map}
use Rattle.fx_model.specs.Directions.{Direction}
use Rattle.fx_model.specs.Tables.{dispatch_rules}
use Rattle.fx_dispatch.specs.declared.way.Way.TheVariants.{Own, Shared}
use Rattle.fx_model.specs.Tree.{Branch, has_child, shared_prefix, branches, branch_rules, root_rules, own_rule, prefix_rule}
use Rattle.fx_dispatch.specs.Ways.{branch_ways, root_ways, way_rule, way_rules}

-- a chain with a rule for each of these interfaces
pub own_ways : (d : Direction) (names : List (List ℕ)) → way_rules d (map Own names) ≡ dispatch_rules d names
own_ways d [] = refl
own_ways d (name ∷ names) = ap (λ rules. own_rule d name ∷ rules) (own_ways d names)

map-append : {A B : Type 0} (f : A → B) (xs ys : List A) → map f (xs ++ ys) ≡ map f xs ++ map f ys
map-append f [] ys = refl
map-append f (x ∷ xs) ys = ap (λ zs. f x ∷ zs) (map-append f xs ys)

own_rules : (d : Direction) (names : List (List ℕ)) → map (way_rule d) (map Own names) ≡ map (own_rule d) names
own_rules d [] = refl
own_rules d (name ∷ names) = ap (λ rules. own_rule d name ∷ rules) (own_rules d names)

module _ (d : Direction) (shared : List ℕ) where
  branch : (b : Branch) → map (way_rule d) (branch_ways shared b) ≡ branch_rules d shared b
  branch b = by_test (has_child b.0 b.1)
    where
      by_test : (t : Bool) → map (way_rule d) (if t then Shared (shared ++ b.0) b.0 ∷ [] else map Own b.1) ≡ (if t then prefix_rule d (shared ++ b.0) b.0 ∷ [] else map (own_rule d) b.1)
      by_test true = refl
      by_test false = own_rules d b.1

  all_branches : (bs : List Branch) → map (way_rule d) (flat_map (branch_ways shared) bs) ≡ flat_map (branch_rules d shared) bs
  all_branches [] = refl
  all_branches (b ∷ bs) =
      map-append (way_rule d) (branch_ways shared b) (flat_map (branch_ways shared) bs)
      ∙ ap (λ rules. rules ++ map (way_rule d) (flat_map (branch_ways shared) bs)) (branch b)
      ∙ ap (λ rules. branch_rules d shared b ++ rules) (all_branches bs)

-- the root's chain is its ways in a direction
pub root-ways : (d : Direction) (names : List (List ℕ)) → way_rules d (root_ways names) ≡ root_rules d names
root-ways d names = ap (λ rules. rules ++ dispatch_rules d []) (all_branches d (shared_prefix names) (branches (shared_prefix names) names))
