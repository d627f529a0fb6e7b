-- A node that is no And, and one that is no Or.
use mathlib.Core.Bool.{true≢false}
use Rattle.std.proofs.lemmas.Bool.Decides.{nat_tests}
use Rattle.std.proofs.Common.{◌≡◌, ◌==◌, List, [], ◌∷◌, length, refl, arith, ℕ, Bool, false, IsTrue, Vec, Global, sym, ap, ◌∙◌}
use Rattle.fx_selector.specs.Tree.{Trees, all, global, negated, each, some, none}
use Rattle.fx_selector.specs.Nodes.{tree, trees_of, label_tree}
use Rattle.fx_selector.specs.declared.node.Test.{Test}
use Rattle.fx_selector.specs.declared.node.Test.TheVariants.{Present, Equal, Unequal, Within, Outside, Contains, Starts, Ends}
use Rattle.fx_selector.specs.declared.node.Node.{Node, And, Or}
use Rattle.fx_selector.specs.declared.node.Node.TheVariants.{rolls-All, rolls-Global, rolls-Label, rolls-Not, rolls-And, rolls-Or}
use Rattle.fx_selector.specs.declared.node.Node.TheViews.{out-Node, roll-Node, roll-out-Node}
use Rattle.fx_selector.specs.declared.node.Node.TheOpen as open_node
use Rattle.fx_selector.proofs.Rows.{tree-And, tree-Or}

each_label : (ts : Trees) (k : List ℕ) (t : Test) → each ts ≡ label_tree k t → ⊥
each_label ts k Present e = cc
each_label ts k (Equal v) e = cc
each_label ts k (Unequal v) e = cc
each_label ts k (Within vs) e = cc
each_label ts k (Outside vs) e = cc
each_label ts k (Contains v) e = cc
each_label ts k (Starts v) e = cc
each_label ts k (Ends v) e = cc

some_label : (ts : Trees) (k : List ℕ) (t : Test) → some ts ≡ label_tree k t → ⊥
some_label ts k Present e = cc
some_label ts k (Equal v) e = cc
some_label ts k (Unequal v) e = cc
some_label ts k (Within vs) e = cc
some_label ts k (Outside vs) e = cc
some_label ts k (Contains v) e = cc
some_label ts k (Starts v) e = cc
some_label ts k (Ends v) e = cc

pub no_And : (v : Vec Node Global) (b : Node) → ((w : Vec Node Global) → b ≡ And w → ⊥) → tree (And v) ≡ tree b → ⊥
no_And v b other e =
    let f : each (trees_of v.items) ≡ tree b = sym (tree-And v) ∙ e in
    elim (out-Node b) as (λ o. roll-Node o ≡ b → ⊥) [
      | open_node.All ↦ λ q. let g : each (trees_of v.items) ≡ all = f ∙ (sym (ap tree q) ∙ ap tree rolls-All) in cc
      | open_node.Global ↦ λ q. let g : each (trees_of v.items) ≡ global = f ∙ (sym (ap tree q) ∙ ap tree rolls-Global) in cc
      | open_node.Label k t ↦ λ q. each_label _ k t (f ∙ (sym (ap tree q) ∙ ap tree (rolls-Label k t)))
      | open_node.Not n ↦ λ q. let g : each (trees_of v.items) ≡ negated (tree n.value) = f ∙ (sym (ap tree q) ∙ ap tree (rolls-Not n)) in cc
      | open_node.And w ↦ λ q. other w (sym q ∙ rolls-And w)
      | open_node.Or w ↦ λ q. let g : each (trees_of v.items) ≡ some (trees_of w.items) = f ∙ (sym (ap tree q) ∙ (ap tree (rolls-Or w) ∙ tree-Or w)) in cc
    ] (roll-out-Node b)

pub no_Or : (v : Vec Node Global) (b : Node) → ((w : Vec Node Global) → b ≡ Or w → ⊥) → tree (Or v) ≡ tree b → ⊥
no_Or v b other e =
    let f : some (trees_of v.items) ≡ tree b = sym (tree-Or v) ∙ e in
    elim (out-Node b) as (λ o. roll-Node o ≡ b → ⊥) [
      | open_node.All ↦ λ q. let g : some (trees_of v.items) ≡ all = f ∙ (sym (ap tree q) ∙ ap tree rolls-All) in cc
      | open_node.Global ↦ λ q. let g : some (trees_of v.items) ≡ global = f ∙ (sym (ap tree q) ∙ ap tree rolls-Global) in cc
      | open_node.Label k t ↦ λ q. some_label _ k t (f ∙ (sym (ap tree q) ∙ ap tree (rolls-Label k t)))
      | open_node.Not n ↦ λ q. let g : some (trees_of v.items) ≡ negated (tree n.value) = f ∙ (sym (ap tree q) ∙ ap tree (rolls-Not n)) in cc
      | open_node.And w ↦ λ q. let g : some (trees_of v.items) ≡ each (trees_of w.items) = f ∙ (sym (ap tree q) ∙ (ap tree (rolls-And w) ∙ tree-And w)) in cc
      | open_node.Or w ↦ λ q. other w (sym q ∙ rolls-Or w)
    ] (roll-out-Node b)

-- what is refused is false
pub never : (P : Type 0) → (P → ⊥) → (IsTrue false → P) × (P → IsTrue false)
never P h = (λ t. absurd (true≢false (sym t)), λ p. absurd (h p))

-- what is left of two rows, where one is at its end
pub ended : (xs rest : List Node) (r : Bool) → length xs ≡ 0 → r ≡ (length rest == 0) → (IsTrue r → trees_of xs ≡ trees_of rest) × (trees_of xs ≡ trees_of rest → IsTrue r)
ended [] [] r h e = (λ t. refl, λ p. e)
ended [] (y ∷ ys) r h e = (λ t. absurd (filled t), λ p. (let k : none ≡ trees_of (y ∷ ys) = p in cc))
  where
    filled : IsTrue r → ⊥
    filled t = grind (arith, nat_tests)
ended (x ∷ xs) rest r h e = absurd (omega arith)
