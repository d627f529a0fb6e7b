-- Whether two trees are one: their nodes in prefix order are.
use Rattle.std.specs.Prelude.{◌≡◌, Bool, true, ◌&&◌, nat_eq}
use Rattle.std.specs.Cmp.{IsEquivalence, on_equiv, and_equiv, nat_eq_equiv}
use Rattle.std.specs.Cmp.Lexicographic.{pointwise, lists_equiv, nat_list_eq_equiv}
use Rattle.std.proofs.Common.{sym, ap, ◌∙◌}
use Rattle.fx_base.specs.Same.{same_list, same_numbers, same_bytes, both_pass}
use Rattle.fx_selector.specs.Tree.{Tree}
use Rattle.fx_selector.specs.TreeCode.{Step, steps, made, made-steps}

abbrev pub same_step : Step → Step → Bool
same_step a b = nat_eq a.0 b.0 && (pointwise nat_eq a.1.0 b.1.0 && pointwise (pointwise nat_eq) a.1.1 b.1.1)

abbrev pub same_tree : Tree → Tree → Bool
same_tree t u = pointwise same_step (steps t) (steps u)

pub same_tree_equiv : IsEquivalence same_tree
same_tree_equiv = on_equiv steps (lists_equiv (and_equiv (on_equiv (λ a. a.0) nat_eq_equiv) (and_equiv (on_equiv (λ a. a.1.0) nat_list_eq_equiv) (on_equiv (λ a. a.1.1) (lists_equiv nat_list_eq_equiv)))))

one_step : (a b : Step) → same_step a b ≡ true → a ≡ b
one_step a b e =
    let p = both_pass (nat_eq a.0 b.0) (pointwise nat_eq a.1.0 b.1.0 && pointwise (pointwise nat_eq) a.1.1 b.1.1) e in
    let q = both_pass (pointwise nat_eq a.1.0 b.1.0) (pointwise (pointwise nat_eq) a.1.1 b.1.1) p.1 in
    λ i. (same_numbers a.0 b.0 p.0 i, (same_bytes a.1.0 b.1.0 q.0 i, same_list (pointwise nat_eq) same_bytes a.1.1 b.1.1 q.1 i))

-- trees that are the same are one
pub one_tree : (t u : Tree) → same_tree t u ≡ true → t ≡ u
one_tree t u e = sym (made-steps t) ∙ (ap made (same_list same_step one_step (steps t) (steps u) e) ∙ made-steps u)
