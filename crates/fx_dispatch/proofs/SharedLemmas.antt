-- What texts share at their beginning.
use Rattle.std.proofs.Common.{Option, Some, None, fold, ◌≡◌, ◌≤◌, ℕ, List, [], ◌∷◌, length, drop, refl, ap, ◌∙◌}
use Rattle.std.proofs.lemmas.List.{drop_all}
use Rattle.fx_model.specs.Tree.{common_prefix, shared_prefix}

with_nothing : (xs : List ℕ) → common_prefix xs [] ≡ []
with_nothing [] = refl
with_nothing (x ∷ xs) = refl

-- nothing is shared behind the end
pub past_end : (xs ys : List ℕ) (n : ℕ) → length ys ≤ n → common_prefix (drop n xs) (drop n ys) ≡ []
past_end xs ys n h = ap (common_prefix (drop n xs)) (drop_all n ys h) ∙ with_nothing (drop n xs)

-- what all share in the end, where these names are left
abbrev pub shared_on : Option (List ℕ) → List (List ℕ) → List ℕ
shared_on None names = shared_prefix names
shared_on (Some before) names = fold common_prefix before names
