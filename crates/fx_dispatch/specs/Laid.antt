-- The tree of some names as it is held, and what takes it to that of others.
use Rattle.std.specs.Prelude.{◌≡◌, ℕ, List}
use Rattle.std.specs.FinMap as maps
use Rattle.fx_base.specs.Set as set
use Rattle.fx_model.specs.Tree.{Branch, shared_prefix, branches, tree_of}
use Rattle.fx_dispatch.specs.declared.edit.Edit.{Edit}
use Rattle.fx_dispatch.specs.declared.laid.Laid.{Laid}
use Rattle.fx_dispatch.specs.declared.plan.Plan.{Plan}
use Rattle.fx_dispatch.specs.declared.tree.Tree.{Tree}
use Rattle.fx_dispatch.specs.Beside.{with_branch}
use Rattle.fx_dispatch.specs.Differences.{all_writes, all_deletes}
use Rattle.fx_dispatch.specs.Edits.{writes_in, deletes_in, HasPlaces}
use Rattle.fx_dispatch.specs.Ways.{root_ways}

abbrev pub branches_of : List (List ℕ) → List Branch
branches_of names = branches (shared_prefix names) names

-- the tree is that of these names
pub record IsTreeOf (tree : Tree) (names : List (List ℕ)) : Type 0 where
  pub shared_is : tree.shared ≡ shared_prefix names
  pub root_is : tree.root ≡ root_ways names
  pub branches_are : maps.entries tree.branches ≡ branches_of names

-- the names, and their tree
abbrev pub IsLaid : Laid → Type 0
IsLaid laid = IsTreeOf laid.tree (set.items laid.names)

-- the tree's branches with these names at one byte are those of other names, which share no less and no more
pub record IsRegrouped (tree : Tree) (byte : List ℕ) (branch : List (List ℕ)) (names : List (List ℕ)) : Type 0 where
  pub shares : shared_prefix names ≡ tree.shared
  pub parts : maps.entries (with_branch byte branch tree.branches) ≡ branches tree.shared names

-- the plan has all that differs between the trees of these names and of those
pub record IsPlan (old new : List (List ℕ)) (plan : Plan) : Type 0 where
  pub writes_are : plan.writes ≡ all_writes (branches_of old) (branches_of new) (root_ways old) (root_ways new)
  pub deletes_are : plan.deletes ≡ all_deletes (branches_of old) (branches_of new)

-- so does the edit, and its places are there
pub record IsEdit (old new : List (List ℕ)) (edit : Edit) : Type 0 where
  pub writes_are : writes_in (tree_of old) edit ≡ all_writes (branches_of old) (branches_of new) (root_ways old) (root_ways new)
  pub deletes_are : deletes_in edit ≡ all_deletes (branches_of old) (branches_of new)
  pub places_are : HasPlaces (tree_of old) edit
