-- Tests that tell lists and trees apart.
use Rattle.std.proofs.Common.{◌≡◌, ℕ, Bool, true, IsTrue, List, nat_eq, sym, subst, ◌∙◌}
use Rattle.std.specs.Cmp.Lexicographic.{pointwise, lists_equiv, nat_list_eq_equiv}
use Rattle.fx_base.specs.Same.{same_list, same_bytes}

pub same_lists : (xs ys : List (List ℕ)) (r : Bool) → r ≡ pointwise (pointwise nat_eq) xs ys → (IsTrue r → xs ≡ ys) × (xs ≡ ys → IsTrue r)
same_lists xs ys r e = (
  λ t. same_list (pointwise nat_eq) same_bytes xs ys (sym e ∙ t),
  λ s. e ∙ subst (λ zs. pointwise (pointwise nat_eq) xs zs ≡ true) s ((lists_equiv nat_list_eq_equiv).refl xs),
)
