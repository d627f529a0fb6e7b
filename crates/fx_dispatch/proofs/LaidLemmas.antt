-- The tree that is held, and the plan, where one byte has other names; and where all is laid out whole.
use Rattle.std.proofs.Common.{◌≡◌, ℕ, cond, List, [], ◌++◌, None, sym, ap, ◌∙◌, subst, map}
use Rattle.std.specs.List.{flat_map}
use Rattle.std.specs.Ordering.{nat_cmp}
use Rattle.std.specs.Cmp.Lexicographic.{slice_cmp}
use Rattle.std.specs.FinMap as maps
use Rattle.std.specs.FinMap.{find, entries, get-entries}
use Rattle.fx_base.specs.Set as set
use Rattle.fx_base.proofs.Entries.{entries-empty}
use Rattle.fx_model.specs.Directions.{Direction, Ingress, Egress}
use Rattle.fx_model.specs.Tree.{branches}
use Rattle.fx_laws.proofs.BranchLemmas.{each_found}
use Rattle.fx_laws.proofs.EntryLookups.{is}
use Rattle.fx_laws.proofs.Gathering.{more_found, branches-sorted}
use Rattle.fx_dispatch.specs.declared.laid.Laid.{Laid}
use Rattle.fx_dispatch.specs.declared.plan.Plan.{Plan}
use Rattle.fx_dispatch.specs.declared.tree.Tree.{Tree}
use Rattle.fx_dispatch.specs.declared.way.Way.{Way}
use Rattle.fx_dispatch.specs.Beside.{with_branch, ways_with}
use Rattle.fx_dispatch.specs.Differences.{child_write, child_delete, root_write, delete_at, all_writes, all_deletes, all_writes_at, all_deletes_at}
use Rattle.fx_dispatch.specs.Laid.{branches_of, IsTreeOf, IsLaid, IsRegrouped, IsPlan}
use Rattle.fx_dispatch.specs.Ways.{branch_ways, root_ways}
use Rattle.fx_dispatch.proofs.OneBranch.{writes_one, deletes_one, ways_one}
use Rattle.fx_dispatch.proofs.Regrouped.{get-with}

-- ---- one byte has other names

module _ (tree : Tree) (os ns : List (List ℕ)) (byte : List ℕ) (ys : List (List ℕ)) (held : IsTreeOf tree os) (moved : IsRegrouped tree byte ys ns) where
  abbrev p : List ℕ
  p = tree.shared

  before : entries tree.branches ≡ branches p os
  before = held.branches_are ∙ ap (λ q. branches q os) (sym held.shared_is)

  after : (q : List ℕ) → find (slice_cmp nat_cmp) q (branches p ns) ≡ cond (is q byte) (more_found None ys) (find (slice_cmp nat_cmp) q (branches p os))
  after q =
      ap (find (slice_cmp nat_cmp) q) (sym moved.parts)
      ∙ sym (get-entries (with_branch byte ys tree.branches) q) ∙ get-with byte ys tree.branches q
      ∙ ap (cond (is q byte) (more_found None ys)) (get-entries tree.branches q ∙ ap (find (slice_cmp nat_cmp) q) before)

  -- the branches by what all share before and after, which is one
  old_is : branches p os ≡ branches_of os
  old_is = ap (λ q. branches q os) held.shared_is

  new_is : branches p ns ≡ branches_of ns
  new_is = ap (λ q. branches q ns) (sym moved.shares)

  pub root_with : ways_with p (entries tree.branches) byte ys ≡ root_ways ns
  root_with =
      sym (ways_one p byte tree.branches ys) ∙ ap (flat_map (branch_ways p)) moved.parts
      ∙ ap (λ q. flat_map (branch_ways q) (branches q ns)) (sym moved.shares)

  pub written_one : (d : Direction) → child_write d (entries tree.branches) (byte, ys) ≡ flat_map (child_write d (branches_of os)) (branches_of ns)
  written_one d =
      ap (λ bs. child_write d bs (byte, ys)) before
      ∙ sym (writes_one (branches p os) (branches p ns) byte ys after d (branches-sorted p ns) (each_found p ns))
      ∙ (λ i. flat_map (child_write d (old_is i)) (new_is i))

  pub deleted_one : (d : Direction) → delete_at d (entries tree.branches) byte ys ≡ flat_map (child_delete d (branches_of ns)) (branches_of os)
  deleted_one d =
      ap (λ bs. delete_at d bs byte ys) before
      ∙ sym (deletes_one (branches p os) (branches p ns) byte ys after d (branches-sorted p os) (each_found p os))
      ∙ (λ i. flat_map (child_delete d (new_is i)) (old_is i))

  -- what is written and deleted for the byte is all that differs
  pub plan_with : (plan : Plan) (root : List Way) → root ≡ ways_with p (entries tree.branches) byte ys →
      plan.writes ≡ all_writes_at (entries tree.branches) byte ys tree.root root → plan.deletes ≡ all_deletes_at (entries tree.branches) byte ys → IsPlan os ns plan
  plan_with plan root is writes deletes =
      let r : root ≡ root_ways ns = is ∙ root_with in
      record {
        writes_are = writes
            ∙ (λ i. (written_one Ingress i ++ root_write Ingress (held.root_is i) (r i)) ++ (written_one Egress i ++ root_write Egress (held.root_is i) (r i)));
        deletes_are = deletes ∙ (λ i. deleted_one Ingress i ++ deleted_one Egress i);
      }

  -- and the tree with these names at the byte is that of the other names
  pub tree_with : (now : Tree) → now.shared ≡ tree.shared → now.root ≡ ways_with p (entries tree.branches) byte ys → now.branches ≡ with_branch byte ys tree.branches → IsTreeOf now ns
  tree_with now shared root parts = record {
    shared_is = shared ∙ sym moved.shares;
    root_is = root ∙ root_with;
    branches_are = ap entries parts ∙ moved.parts ∙ new_is;
  }

-- ---- all is laid out whole

pub plan_whole : (tree now : Tree) (os ns : List (List ℕ)) (plan : Plan) → IsTreeOf tree os → IsTreeOf now ns →
    plan.writes ≡ all_writes (entries tree.branches) (entries now.branches) tree.root now.root → plan.deletes ≡ all_deletes (entries tree.branches) (entries now.branches) → IsPlan os ns plan
plan_whole tree now os ns plan h g writes deletes = record {
  writes_are = writes ∙ (λ i. all_writes (h.branches_are i) (g.branches_are i) (h.root_is i) (g.root_is i));
  deletes_are = deletes ∙ (λ i. all_deletes (h.branches_are i) (g.branches_are i));
}

-- the tree of no names
pub laid_none : (laid : Laid) → laid.names ≡ set.empty → laid.tree ≡ record { shared = []; root = []; branches = maps.empty } → IsLaid laid
laid_none laid names tree =
    let none : set.items laid.names ≡ [] = ap set.items names ∙ ap (map (λ e. e.0)) (entries-empty (slice_cmp nat_cmp)) in
    subst (IsTreeOf laid.tree) (sym none) (record {
      shared_is = ap (λ (t : Tree). t.shared) tree;
      root_is = ap (λ (t : Tree). t.root) tree;
      branches_are = ap (λ (t : Tree). entries t.branches) tree ∙ entries-empty (slice_cmp nat_cmp);
    })
