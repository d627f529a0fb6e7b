-- The rules of a dispatch chain before a direction is given: which names each matches, and where it leads.
use Rattle.std.specs.Prelude.{List, [], ◌∷◌, ◌++◌, map, ℕ, if◌then◌else◌}
use Rattle.std.specs.List.{flat_map}
use Rattle.fx_model.specs.declared.chain.ChainRule.{ChainRule}
use Rattle.fx_model.specs.Directions.{Direction}
use Rattle.fx_model.specs.Tables.{dispatch_rules}
use Rattle.fx_dispatch.specs.declared.way.Way.{Way}
use Rattle.fx_dispatch.specs.declared.way.Way.TheVariants.{Own, Shared}
use Rattle.fx_model.specs.Tree.{Branch, shared_prefix, branches, has_child, own_rule}
use Rattle.fx_model.specs.Tree as tree

abbrev pub branch_ways : List ℕ → Branch → List Way
branch_ways shared b = if has_child b.0 b.1 then Shared (shared ++ b.0) b.0 ∷ [] else map Own b.1

abbrev pub root_ways : List (List ℕ) → List Way
root_ways names = flat_map (branch_ways (shared_prefix names)) (branches (shared_prefix names) names)

abbrev pub way_rule : Direction → Way → ChainRule
way_rule d (Own name) = own_rule d name
way_rule d (Shared prefix byte) = tree.prefix_rule d prefix byte

abbrev pub way_rules : Direction → List Way → List ChainRule
way_rules d ways = map (way_rule d) ways ++ dispatch_rules d []
