-- Selectors of namespaces and service accounts, as selectors of endpoints: the labels of an endpoint's namespace and
-- service account stand among its own under these prefixes.
use Rattle.std.specs.Prelude.{ℕ, List, ◌++◌, codes}
use Rattle.fx_selector.specs.Tree.{Tree, Trees, all, global, has, equal, unequal, within, outside, contains, starts, ends, negated, each, some, none, more}

-- the prefix before each key; all() asks for the name, and global() for its absence
abbrev mutual
  pub rewritten : List ℕ → List ℕ → Tree → Tree
  rewritten prefix name all = has name
  rewritten prefix name global = negated (has name)
  rewritten prefix name (has k) = has (prefix ++ k)
  rewritten prefix name (equal k v) = equal (prefix ++ k) v
  rewritten prefix name (unequal k v) = unequal (prefix ++ k) v
  rewritten prefix name (within k vs) = within (prefix ++ k) vs
  rewritten prefix name (outside k vs) = outside (prefix ++ k) vs
  rewritten prefix name (contains k v) = contains (prefix ++ k) v
  rewritten prefix name (starts k v) = starts (prefix ++ k) v
  rewritten prefix name (ends k v) = ends (prefix ++ k) v
  rewritten prefix name (negated t) = negated (rewritten prefix name t)
  rewritten prefix name (each ts) = each (rewritten_all prefix name ts)
  rewritten prefix name (some ts) = some (rewritten_all prefix name ts)

  pub rewritten_all : List ℕ → List ℕ → Trees → Trees
  rewritten_all prefix name none = none
  rewritten_all prefix name (more t ts) = more (rewritten prefix name t) (rewritten_all prefix name ts)

abbrev pub namespace_tree : Tree → Tree
namespace_tree t = rewritten (codes "pcns.") (codes "projectcalico.org/namespace") t

abbrev pub service_account_tree : Tree → Tree
service_account_tree t = rewritten (codes "pcsa.") (codes "projectcalico.org/serviceaccount") t
