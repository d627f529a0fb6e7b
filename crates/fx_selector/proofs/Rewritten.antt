-- What rewriting gives.
use Rattle.std.proofs.Common.{◌≡◌, ℕ, ◌+◌, ◌≤◌, true, List, [], ◌∷◌, ◌++◌, map, refl, sym, ap, ◌∙◌, arith, Vec, Global, length-append, codes, lit<}
use Rattle.fx_selector.specs.Phrase.{Each, is_key}
use Rattle.fx_selector.specs.Tree.{Tree, Trees, all, global, has, equal, unequal, within, outside, contains, starts, ends, negated, each, some, none, more, many, count, height, heights, IsKey, IsTree, AreTrees, IsSelector}
use Rattle.fx_selector.specs.Nodes.{tree, trees_of}
use Rattle.fx_selector.specs.Rewriting.{rewritten, rewritten_all, namespace_tree, service_account_tree}
use Rattle.std.specs.List.{list_all}
use Rattle.fx_base.specs.Same.{both_pass}
use Rattle.fx_selector.specs.declared.node.Node.{Node, And, Or}
use Rattle.fx_selector.proofs.Rows.{tree-And, tree-Or}

module _ (prefix name : List ℕ) where
  rewritten_all-trees_of : (ns : List Node) → many (map (λ n. rewritten prefix name (tree n)) ns) ≡ rewritten_all prefix name (trees_of ns)
  rewritten_all-trees_of [] = refl
  rewritten_all-trees_of (n ∷ ns) = ap (more (rewritten prefix name (tree n))) (rewritten_all-trees_of ns)

  pub rewritten-And : (v w : Vec Node Global) (xs : List Node) → xs ≡ v.items → (n : Node) → n ≡ And v → map tree w.items ≡ map (λ n. rewritten prefix name (tree n)) xs → tree (And w) ≡ rewritten prefix name (tree n)
  rewritten-And v w xs e n is h =
      tree-And w
      ∙ (ap (λ ts. each (many ts)) h
      ∙ (ap each (rewritten_all-trees_of xs ∙ ap (λ ns. rewritten_all prefix name (trees_of ns)) e) ∙ sym (ap (rewritten prefix name) (ap tree is ∙ tree-And v))))

  pub rewritten-Or : (v w : Vec Node Global) (xs : List Node) → xs ≡ v.items → (n : Node) → n ≡ Or v → map tree w.items ≡ map (λ n. rewritten prefix name (tree n)) xs → tree (Or w) ≡ rewritten prefix name (tree n)
  rewritten-Or v w xs e n is h =
      tree-Or w
      ∙ (ap (λ ts. some (many ts)) h
      ∙ (ap some (rewritten_all-trees_of xs ∙ ap (λ ns. rewritten_all prefix name (trees_of ns)) e) ∙ sym (ap (rewritten prefix name) (ap tree is ∙ tree-Or v))))

  -- at most one level more
  mutual
    pub height-rewritten : (t : Tree) → height (rewritten prefix name t) ≤ height t + 1
    height-rewritten all = omega arith
    height-rewritten global = omega arith
    height-rewritten (has k) = omega arith
    height-rewritten (equal k v) = omega arith
    height-rewritten (unequal k v) = omega arith
    height-rewritten (within k vs) = omega arith
    height-rewritten (outside k vs) = omega arith
    height-rewritten (contains k v) = omega arith
    height-rewritten (starts k v) = omega arith
    height-rewritten (ends k v) = omega arith
    height-rewritten (negated t) = omega (arith, height-rewritten t)
    height-rewritten (each ts) = omega (arith, heights-rewritten ts)
    height-rewritten (some ts) = omega (arith, heights-rewritten ts)

    pub heights-rewritten : (ts : Trees) → heights (rewritten_all prefix name ts) ≤ heights ts + 1
    heights-rewritten none = omega arith
    heights-rewritten (more t ts) = omega (arith, height-rewritten t, heights-rewritten ts)

  count-rewritten : (ts : Trees) → count (rewritten_all prefix name ts) ≡ count ts
  count-rewritten none = refl
  count-rewritten (more t ts) = ap (λ n. n + 1) (count-rewritten ts)

  module _ (first : Each is_key prefix) (named : IsKey name) where
    join_keys : (p k : List ℕ) → Each is_key p → Each is_key k → Each is_key (p ++ k)
    join_keys [] k h g = g
    join_keys (c ∷ cs) k h g = (h.0, join_keys cs k h.1 g)

    key : (k : List ℕ) → IsKey k → IsKey (prefix ++ k)
    key k h = (join_keys prefix k first h.0, omega (arith, h.1, length-append prefix k))

    mutual
      pub rewritten_tree : (t : Tree) → IsTree t → IsTree (rewritten prefix name t)
      rewritten_tree all h = named
      rewritten_tree global h = named
      rewritten_tree (has k) h = key k h
      rewritten_tree (equal k v) h = (key k h.0, h.1)
      rewritten_tree (unequal k v) h = (key k h.0, h.1)
      rewritten_tree (within k vs) h = (key k h.0, h.1)
      rewritten_tree (outside k vs) h = (key k h.0, h.1)
      rewritten_tree (contains k v) h = (key k h.0, h.1)
      rewritten_tree (starts k v) h = (key k h.0, h.1)
      rewritten_tree (ends k v) h = (key k h.0, h.1)
      rewritten_tree (negated t) h = rewritten_tree t h
      rewritten_tree (each ts) h = (rewritten_trees ts h.0, omega (arith, h.1, count-rewritten ts))
      rewritten_tree (some ts) h = (rewritten_trees ts h.0, omega (arith, h.1, count-rewritten ts))

      pub rewritten_trees : (ts : Trees) → AreTrees ts → AreTrees (rewritten_all prefix name ts)
      rewritten_trees none h = tt
      rewritten_trees (more t ts) h = (rewritten_tree t h.0, rewritten_trees ts h.1)

each_key : (k : List ℕ) → list_all is_key k ≡ true → Each is_key k
each_key [] e = tt
each_key (c ∷ cs) e = let p = both_pass (is_key c) (list_all is_key cs) e in (p.0, each_key cs p.1)

-- a selector that is not too deep, rewritten
pub rewritten_selector : (prefix name : List ℕ) → Each is_key prefix → IsKey name → (t : Tree) → IsTree t → height t ≤ 139 → IsSelector (rewritten prefix name t)
rewritten_selector prefix name first named t h l = record { tree = rewritten_tree prefix name first named t h; shallow = omega (arith, height-rewritten prefix name t) }

pub namespace_selector : (t : Tree) → IsTree t → height t ≤ 139 → IsSelector (namespace_tree t)
unfolding is_key
namespace_selector t h l = rewritten_selector (codes "pcns.") (codes "projectcalico.org/namespace") (each_key (codes "pcns.") refl) (each_key (codes "projectcalico.org/namespace") refl, lit< tt) t h l

pub service_account_selector : (t : Tree) → IsTree t → height t ≤ 139 → IsSelector (service_account_tree t)
unfolding is_key
service_account_selector t h l = rewritten_selector (codes "pcsa.") (codes "projectcalico.org/serviceaccount") (each_key (codes "pcsa.") refl) (each_key (codes "projectcalico.org/serviceaccount") refl, lit< tt) t h l
