-- The tree that a node stands for, without where it lies in memory.
use Rattle.std.specs.Prelude.{ℕ, List, map}
use Rattle.fx_selector.specs.Tree.{Tree, Trees, all, global, has, equal, unequal, within, outside, contains, starts, ends, negated, each, some, none, more, many}
use Rattle.fx_selector.specs.declared.node.Test.{Test}
use Rattle.fx_selector.specs.declared.node.Test.TheVariants.{Present, Equal, Unequal, Within, Outside, Contains, Starts, Ends}
use Rattle.fx_selector.specs.declared.node.Node.{Node, All, Global, Label, Not', And', Or', Row_of-Node, end_of-Node, more_of-Node}

abbrev pub label_tree : List ℕ → Test → Tree
label_tree k Present = has k
label_tree k (Equal v) = equal k v
label_tree k (Unequal v) = unequal k v
label_tree k (Within vs) = within k vs.items
label_tree k (Outside vs) = outside k vs.items
label_tree k (Contains v) = contains k v
label_tree k (Starts v) = starts k v
label_tree k (Ends v) = ends k v

abbrev mutual
  pub tree : Node → Tree
  tree All = all
  tree Global = global
  tree (Label k test) = label_tree k test
  tree (Not' p n) = negated (tree n)
  tree (And' shape row) = each (trees row)
  tree (Or' shape row) = some (trees row)

  pub trees : {m : _} → Row_of-Node m → Trees
  trees end_of-Node = none
  trees (more_of-Node n rest) = more (tree n) (trees rest)

-- the trees of nodes in a row
abbrev pub trees_of : List Node → Trees
trees_of ns = many (map tree ns)
